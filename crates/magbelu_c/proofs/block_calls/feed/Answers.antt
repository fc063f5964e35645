use Rattle.std.proofs.Common.{◌≡◌, map, sym, ap, ◌∙◌, subst, Some}
use Rattle.std.specs.Prelude.{Option, IfSome, is_some, position, bytes_eq}
use Rattle.stream_model.specs.Machine as machine
use Rattle.flowgraph.specs.Flowgraph.{net_of}
use Rattle.kinds.specs.Kind.{meaning_of}
use Rattle.items.specs.declared.stream_items.Items.{Items}
use Rattle.items.specs.Items.{type_of, numbers_of}
use Rattle.plant_storage.specs.Marks.{mark_of}
use Rattle.plant.specs.Answers.{refusal_of}
use Rattle.raw_items.specs.Values.{items_of}
use Rattle.magbelu_c.specs.AnyPlants.{plant_of}
use Rattle.magbelu_c.proofs.Calling.{cut, fed, no_source, none_at, none_named, one_at, one_named}
use Rattle.magbelu_c.specs.Replies.{cut_item, fed_bytes, is_fed, wants}
use Rattle.magbelu_c.proofs.block_calls.feed.Goals as goal

pub returns-in_default-clause-calls : goal.returns-in_default-clause-calls
returns-in_default-clause-calls c =
    none_named (plant_of c.args.plant.now) c.args.source.now (fed_bytes c.args.order c.args.bytes.now (map mark_of c.args.marks.now)) (wants (plant_of c.args.plant.now) c.args.source.now is_fed)
    (none_at c.block_named.result (position (bytes_eq c.args.source.now) (plant_of c.args.plant.now).graph.names) c.block_named.ensures c.in_default.is) c.refusal.result c.refusal.ensures

pub returns-in-Err-clause-calls : goal.returns-in-Err-clause-calls
returns-in-Err-clause-calls c =
    let p = (plant_of c.args.plant.now) in let net = net_of meaning_of p.graph in let name = c.args.source.now in let order = c.args.order in let bytes = c.args.bytes.now in let ms = map mark_of c.args.marks.now in let call = fed_bytes order bytes ms in let may = wants p name is_fed in let b = c.in-Some.source.0 in
    let at = one_at c.block_named.result (position (bytes_eq name) p.graph.names) c.in-Some.source c.block_named.ensures c.in-Some.is in
    one_named p name call may b at p (refusal_of c.in-Err.fault) (no_source p b order bytes ms c.in-Err.fault (sym c.source_type.ensures ∙ c.in-Err.is)) c.refusal-in-Err.result c.refusal-in-Err.ensures

pub returns-in_default-found-clause-calls : goal.returns-in_default-found-clause-calls
returns-in_default-found-clause-calls c =
    let p = (plant_of c.args.plant.now) in let net = net_of meaning_of p.graph in let name = c.args.source.now in let order = c.args.order in let bytes = c.args.bytes.now in let ms = map mark_of c.args.marks.now in let call = fed_bytes order bytes ms in let may = wants p name is_fed in let b = c.in-Some.source.0 in
    let at = one_at c.block_named.result (position (bytes_eq name) p.graph.names) c.in-Some.source c.block_named.ensures c.in-Some.is in
    one_named p name call may b at p (Some (machine.Refused cut_item)) (cut p b order bytes ms c.in-Ok.item_type (sym c.source_type.ensures ∙ c.in-Ok.is) (sym (ap (λ (o : Option Items). is_some o) c.in_default-found.is) ∙ c.in-Ok-whole_items.ensures.cut)) c.refused.result c.refused.ensures

pub returns-in-Ok-feed-clause-calls : goal.returns-in-Ok-feed-clause-calls
returns-in-Ok-feed-clause-calls c =
    let p = (plant_of c.args.plant.now) in let net = net_of meaning_of p.graph in let name = c.args.source.now in let order = c.args.order in let bytes = c.args.bytes.now in let ms = map mark_of c.args.marks.now in let call = fed_bytes order bytes ms in let may = wants p name is_fed in let b = c.in-Some.source.0 in
    let at = one_at c.block_named.result (position (bytes_eq name) p.graph.names) c.in-Some.source c.block_named.ensures c.in-Some.is in
    let are = subst (λ (o : Option Items). IfSome o (λ (items : Items). (type_of items ≡ c.in-Ok.item_type) × (numbers_of items ≡ items_of c.in-Ok.item_type order bytes))) c.in-Some-found.is c.in-Ok-whole_items.ensures.items in
    one_named p name call may b at (plant_of c.feed.new.self) (Some (machine.Fed c.in-Ok-feed.fed.0))
    (fed p b order bytes ms c.in-Ok.item_type (sym c.source_type.ensures ∙ c.in-Ok.is) (sym (ap (λ (o : Option Items). is_some o) c.in-Some-found.is) ∙ c.in-Ok-whole_items.ensures.cut) (type_of c.in-Some-found.items) (numbers_of c.in-Some-found.items) are.0 are.1 (plant_of c.feed.new.self)
    (Some (machine.Fed c.in-Ok-feed.fed.0)) c.in-Ok-feed.ensures.answered) c.done.result c.done.ensures

pub returns-clause-calls : goal.returns-clause-calls
returns-clause-calls c =
    let p = (plant_of c.args.plant.now) in let net = net_of meaning_of p.graph in let name = c.args.source.now in let order = c.args.order in let bytes = c.args.bytes.now in let ms = map mark_of c.args.marks.now in let call = fed_bytes order bytes ms in let may = wants p name is_fed in let b = c.in-Some.source.0 in
    let at = one_at c.block_named.result (position (bytes_eq name) p.graph.names) c.in-Some.source c.block_named.ensures c.in-Some.is in
    let are = subst (λ (o : Option Items). IfSome o (λ (items : Items). (type_of items ≡ c.in-Ok.item_type) × (numbers_of items ≡ items_of c.in-Ok.item_type order bytes))) c.in-Some-found.is c.in-Ok-whole_items.ensures.items in
    one_named p name call may b at (plant_of c.feed.new.self) (refusal_of c.in-Err-feed.fault)
    (fed p b order bytes ms c.in-Ok.item_type (sym c.source_type.ensures ∙ c.in-Ok.is) (sym (ap (λ (o : Option Items). is_some o) c.in-Some-found.is) ∙ c.in-Ok-whole_items.ensures.cut) (type_of c.in-Some-found.items) (numbers_of c.in-Some-found.items) are.0 are.1 (plant_of c.feed.new.self)
    (refusal_of c.in-Err-feed.fault) c.in-Err-feed.ensures.answered) c.refusal-in-Err-feed.result c.refusal-in-Err-feed.ensures
