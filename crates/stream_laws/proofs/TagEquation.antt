-- The tags of a network solve their equation.
use Rattle.std.proofs.Common.{◌≡◌, ℕ, zero, suc, ◌<◌, Bool, true, false, List, map, length, refl, arith, ap, sym, ◌∙◌}
use Rattle.stream_model.specs.Tags.{Tag, sorted_tags, tags_within}
use Rattle.stream_model.specs.Network.{Network, Connection, Handed, HasLevels, node_at, role_at, handed_at, is_source, writers_of, items_of, tags_by, tags_of, chosen}
use Rattle.stream_model.proofs.Maps.{map-agree}
use Rattle.stream_model.proofs.Streams.{Below, writers_below, elim-true, elim-false}
use Rattle.stream_laws.specs.Tags.{TagsUnfold, tags_in}

-- the tags that the writers give, and the tags that the policy makes of them
abbrev pub tags_in_by : ℕ → Network → List Handed → ℕ → List (List Tag)
tags_in_by turns net hs b = map (λ c. tags_by turns net hs c.from c.out_port) (writers_of net b)

abbrev pub tags_from : Network → List Handed → ℕ → ℕ → List (List Tag) → List Tag
tags_from net hs b p ts = tags_within 0 (length (items_of net hs b p)) (sorted_tags (chosen (node_at net b).policy (node_at net b) p 0 ts))

tags_by-source : (turns : ℕ) (net : Network) (hs : List Handed) (b p : ℕ) → is_source (role_at net b) ≡ true → tags_by (suc turns) net hs b p ≡ sorted_tags (handed_at hs b).tags
unfolding tags_by
tags_by-source turns net hs b p e = elim-true (is_source (role_at net b)) (sorted_tags (handed_at hs b).tags) (tags_from net hs b p (tags_in_by turns net hs b)) e

tags_by-worker : (turns : ℕ) (net : Network) (hs : List Handed) (b p : ℕ) → is_source (role_at net b) ≡ false → tags_by (suc turns) net hs b p ≡ tags_from net hs b p (tags_in_by turns net hs b)
unfolding tags_by
tags_by-worker turns net hs b p e = elim-false (is_source (role_at net b)) (sorted_tags (handed_at hs b).tags) (tags_from net hs b p (tags_in_by turns net hs b)) e

module _ (net : Network) (level : ℕ → ℕ) (levels : HasLevels net level) (hs : List Handed) where
  -- turns beyond a block's level change nothing
  inputs_same : (turns more b : ℕ) → ((c : Connection) → Below net level levels b c → tags_by turns net hs c.from c.out_port ≡ tags_by more net hs c.from c.out_port) → tags_in_by turns net hs b ≡ tags_in_by more net hs b
  inputs_same turns more b each =
      map-agree (Below net level levels b) (λ (c : Connection). tags_by turns net hs c.from c.out_port) (λ (c : Connection). tags_by more net hs c.from c.out_port) (writers_of net b) (writers_below net level levels b) each

  stable_at : (turns b p : ℕ) (s : Bool) → is_source (role_at net b) ≡ s → ((c : Connection) → Below net level levels b c → tags_by turns net hs c.from c.out_port ≡ tags_by (suc turns) net hs c.from c.out_port) → tags_by (suc turns) net hs b p ≡ tags_by (suc (suc turns)) net hs b p
  stable_at turns b p true e each = tags_by-source turns net hs b p e ∙ sym (tags_by-source (suc turns) net hs b p e)
  stable_at turns b p false e each =
      tags_by-worker turns net hs b p e ∙ ap (tags_from net hs b p) (inputs_same turns (suc turns) b each) ∙ sym (tags_by-worker (suc turns) net hs b p e)

  stable : (turns b p : ℕ) → level b < turns → tags_by turns net hs b p ≡ tags_by (suc turns) net hs b p
  stable zero b p h = absurd (omega arith)
  stable (suc turns) b p h =
      stable_at turns b p (is_source (role_at net b)) refl
      (λ c low. let h' : level c.from < turns = (let l = low.2 in omega arith) in stable turns c.from c.out_port h')

  unfolds_at : (b p turns : ℕ) → length net.nodes ≡ suc turns → b < length net.nodes → (s : Bool) → is_source (role_at net b) ≡ s →
      tags_of net hs b p ≡ (elim s [ true ↦ sorted_tags (handed_at hs b).tags | false ↦ tags_from net hs b p (tags_in net hs b) ])
  unfolds_at b p turns n in' true e = ap (λ t. tags_by t net hs b p) n ∙ tags_by-source turns net hs b p e
  unfolds_at b p turns n in' false e =
      let whole : tags_in_by turns net hs b ≡ tags_in_by (suc turns) net hs b =
      inputs_same turns (suc turns) b (λ c low. let f = levels.few b in' in let l = low.2 in let h' : level c.from < turns = omega arith in stable turns c.from c.out_port h') in
      ap (λ t. tags_by t net hs b p) n ∙ tags_by-worker turns net hs b p e ∙ ap (tags_from net hs b p) (whole ∙ ap (λ t. tags_in_by t net hs b) (sym n))

  pub tags_unfold_at : (b p turns : ℕ) → length net.nodes ≡ turns → b < turns → tags_of net hs b p ≡ (elim (is_source (role_at net b)) [ true ↦ sorted_tags (handed_at hs b).tags | false ↦ tags_from net hs b p (tags_in net hs b) ])
  tags_unfold_at b p zero n in' = absurd (omega arith)
  tags_unfold_at b p (suc turns) n in' = let in'' : b < length net.nodes = omega arith in unfolds_at b p turns n in'' (is_source (role_at net b)) refl

pub tags_unfold : TagsUnfold
tags_unfold net hs level levels b p in' = tags_unfold_at net level levels hs b p (length net.nodes) refl in'
