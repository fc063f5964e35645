use Rattle.std.proofs.Common.{◌≡◌, ◌<◌, Bool, [], map, set, get_or, length, true, arith, ap, sym, ◌∙◌}
use Rattle.std.specs.Prelude.{if◌then◌else◌}
use Rattle.std.proofs.lemmas.List.{map-set, get_or-map}
use Rattle.stream_model.specs.declared.vocabulary.Role.TheVariants.{Keep}
use Rattle.stream_model.specs.Tags.{tags_within}
use Rattle.stream_model.specs.Network.{role_at, is_keeper}
use Rattle.items.specs.Items.{numbers_of}
use Rattle.items.specs.Tags.{tag_of}
use Rattle.flowgraph.specs.Flowgraph.{net_of}
use Rattle.plant_laws.specs.Stored.{nothing_collected}
use Rattle.plant_laws.specs.Changes.{collected, tags_waiting}
use Rattle.plant_storage.specs.Stores.{collected_of, stored_of}
use Rattle.plant_transfers.proofs.States.{rows}
use Rattle.plant_transfers.proofs.Giving as giving
use Rattle.plant_transfers.proofs.sinks.collect.Goals as goal

pub returns-in-Keep-clause-sinks : goal.returns-in-Keep-clause-sinks
returns-in-Keep-clause-sinks g c =
    let net = net_of g.B.Block.meaning c.args.graph.now in
    let b = c.args.firings.block.0 in
    let k = c.args.firings.first in
    let next = c.args.firings.next in
    let waiting = get_or (tags_waiting net (stored_of [] [] (rows c.args.buffers.now) c.args.sinks.now) b) 0 [] in
    let role : role_at net b ≡ Keep = sym c.in-Keep.ensures in
    let keeper : is_keeper (role_at net b) ≡ true = ap is_keeper role in
    let keeps = c.requires.keeps keeper in
    let some : 0 < length c.args.windows.now = (let one = keeps.collects.one in omega arith) in
    let window : numbers_of c.index-windows-0.result ≡ get_or (map numbers_of c.args.windows.now) 0 [] =
    ap numbers_of c.index-windows-0.is ∙ sym (get_or-map numbers_of c.args.windows.now 0 c.index-windows-0.result [] some) in
    let tags : map tag_of c.tags_on-tags.result.now ≡ tags_within k next waiting =
    c.tags_on-tags.ensures ∙ ap (λ from. tags_within from (giving.first_taken net b next) waiting) (keeps.collects.input k) ∙ ap (λ to. tags_within k to waiting) (keeps.collects.input next) in
    let is = giving.kept_is c.args.sinks.now b c.index-sinks-firings.result c.push.new.self (numbers_of c.index-windows-0.result) (map tag_of c.tags_on-tags.result.now) c.requires.sink c.push.ensures.item c.push.ensures.from c.push.ensures.items c.push.ensures.tags in
    map-set collected_of c.args.sinks.now b c.push.new.self
    ∙ ap (set (map collected_of c.args.sinks.now) b)
    (is ∙ ap (λ xs. collected (get_or (map collected_of c.args.sinks.now) b nothing_collected) xs (map tag_of c.tags_on-tags.result.now)) window
    ∙ ap (collected (get_or (map collected_of c.args.sinks.now) b nothing_collected) (get_or (map numbers_of c.args.windows.now) 0 [])) tags)
    ∙ sym (ap (λ (t : Bool). if t
    then set (map collected_of c.args.sinks.now) b (collected (get_or (map collected_of c.args.sinks.now) b nothing_collected) (get_or (map numbers_of c.args.windows.now) 0 []) (tags_within k next waiting))
    else map collected_of c.args.sinks.now) keeper)
