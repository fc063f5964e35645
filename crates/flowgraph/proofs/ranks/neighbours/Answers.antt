use Rattle.std.proofs.Common.{List, ℕ, ◌≡◌, ◌<◌, ◌++◌, ◌∷◌, length, map, set, [], get_or, ap, sym, subst, ◌∙◌, arith, Vec, Global}
use Rattle.std.specs.List.{All}
use Rattle.std.proofs.lemmas.List.{length-map, length-set, length-replicate, with_items_is}
use Rattle.std.proofs.lemmas.List.Elements.{All-push, All-replicate, All-set}
use Rattle.flowgraph.proofs.TurnLemmas.{nowhere}
use Rattle.flowgraph.proofs.ranks.neighbours.Goals as goal
use Rattle.flowgraph.proofs.ranks.neighbours.Goals.{in-In+in_ok-push_at-in-In, in-Out+in_ok-push_at-in-Out}

-- one item more at the end of a row
more : (n : ℕ) (rows rows' : List (Vec ℕ Global)) (at item : ℕ) → length rows ≡ n → All (All (λ b. b < n)) (map (λ (row : Vec ℕ Global). row.items) rows) → at < n → item < n →
    map (λ (row : Vec ℕ Global). row.items) rows' ≡ set (map (λ (row : Vec ℕ Global). row.items) rows) at (get_or (map (λ (row : Vec ℕ Global). row.items) rows) at [] ++ item ∷ []) →
    (length rows' ≡ n) × All (All (λ b. b < n)) (map (λ (row : Vec ℕ Global). row.items) rows')
more n rows rows' at item len within low high pushed =
    let before = length-map rows (λ (row : Vec ℕ Global). row.items) in
    let after = length-map rows' (λ (row : Vec ℕ Global). row.items) in
    let same = ap length pushed ∙ length-set (map (λ (row : Vec ℕ Global). row.items) rows) at _ in
    let place : at < length (map (λ (row : Vec ℕ Global). row.items) rows) = omega arith in (
      omega arith,
      subst (All (All (λ b. b < n))) (sym pushed) (All-set (All (λ b. b < n)) (map (λ (row : Vec ℕ Global). row.items) rows) at _ (All-push (λ b. b < n) _ _ (within at [] place) high) within),
    )

pub loop-connection-init : goal.loop-connection-init
loop-connection-init c = (
  sym (length-map c.in_ok-rows.rows.items (λ (row : Vec ℕ Global). row.items)) ∙ ap length c.in_ok-rows.ensures ∙ length-replicate _ _,
  subst (All (All (λ b. b < c.args.blocks))) (sym c.in_ok-rows.ensures) (All-replicate (All (λ b. b < c.args.blocks)) c.args.blocks [] (λ k d low. absurd (omega arith))),
)

pub loop-connection-preserved : goal.loop-connection-preserved
loop-connection-preserved c =
    let n = c.args.blocks in
    let rows = c.loop-connection.rows.items in
    let d = get_or c.args.connections.now c.loop-connection.connection-index nowhere in
    let ends = c.requires c.loop-connection.connection-index nowhere c.loop-connection-test.true in
    let all : List (Vec ℕ Global) → List (List ℕ) = map (λ (row : Vec ℕ Global). row.items) in
    elim c.match-side.branch [
      | in-In+in_ok-push_at-in-In w ↦ (
          let written = with_items_is c.loop-connection.rows w.push_at.new.rows (w.push_at.auto.rows ∙ w.deref_mut.ensures.len) in
          let pushed = w.in_ok-push_at-in-In.ensures ∙ ap (λ rows. set (all rows) d.to.0 (get_or (all rows) d.to.0 [] ++ d.from.0 ∷ [])) w.deref_mut.ensures.value in
          more n rows c.match-side.rows.items d.to.0 d.from.0 c.loop-connection.invariant.0 c.loop-connection.invariant.1 ends.1 ends.0
          (ap (λ v. all v.items) w.rows-is ∙ ap all written ∙ pushed))
      | in-Out+in_ok-push_at-in-Out w ↦ (
          let written = with_items_is c.loop-connection.rows w.push_at-in-Out.new.rows (w.push_at-in-Out.auto.rows ∙ w.deref_mut-in-Out.ensures.len) in
          let pushed = w.in_ok-push_at-in-Out.ensures ∙ ap (λ rows. set (all rows) d.from.0 (get_or (all rows) d.from.0 [] ++ d.to.0 ∷ [])) w.deref_mut-in-Out.ensures.value in
          more n rows c.match-side.rows.items d.from.0 d.to.0 c.loop-connection.invariant.0 c.loop-connection.invariant.1 ends.0 ends.1
          (ap (λ v. all v.items) w.rows-is ∙ ap all written ∙ pushed))
    ]
