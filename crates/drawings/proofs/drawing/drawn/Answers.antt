use Rattle.std.proofs.Common.{◌++◌, ◌∙◌, List, ℕ, ap}
use Rattle.stream_model.specs.Machine.{Capacities}
use Rattle.rates.specs.Answer.{answer_of, sizes_of}
use Rattle.drawings.specs.Drawings.{text_with, blocks_text, connections_text, opening_text, closing_text}
use Rattle.drawings.proofs.drawing.drawn.Goals as goal

pub returns : goal.returns
returns c =
    let f = c.args.format in
    let g = c.args.graph.now in
    let rates = answer_of c.args.rates.now in
    let arrows = connections_text f g (sizes_of c.in_ok-sizes.sizes) in
    let opened = c.in_ok-text.ensures.items ∙ c.opening.ensures in
    let boxed = c.in_ok-push_blocks.ensures ∙ ap (λ (l : List ℕ). l ++ blocks_text f g rates) opened in
    let joined = c.in_ok-push_connections.ensures ∙ ap (λ (l : List ℕ). l ++ arrows) boxed in
    c.in_ok-extend_from_slice.ensures.items
    ∙ ap (λ (l : List ℕ). l ++ c.closing.result.now) joined
    ∙ ap (λ (l : List ℕ). opening_text f ++ blocks_text f g rates ++ arrows ++ l) c.closing.ensures
    ∙ ap (λ (caps : Capacities). opening_text f ++ blocks_text f g rates ++ connections_text f g caps ++ closing_text f) c.in_ok-sizes.ensures
    ∙ ap (text_with f g) c.requires.answer
