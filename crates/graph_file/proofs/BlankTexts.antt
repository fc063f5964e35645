-- A blank text is a document without keys, of which nothing takes memory.
use Rattle.std.proofs.Common.{◌≡◌, ℕ, List, Option, Some, sym, ◌∙◌, subst, refl, inl, inr}
use Rattle.toml.specs.Data.{Members, no_members}
use Rattle.toml.specs.Errors.{IsBlank}
use Rattle.toml.specs.Parse.{parse_document, lines}
use Rattle.graph_file.specs.File.{FileTakes}

blank_document : (text : List ℕ) → IsBlank text → parse_document text ≡ Some no_members
unfolding parse_document lines
blank_document text blank = rw blank refl

nothing_taken : FileTakes no_members → ⊥
nothing_taken takes = elim takes.1 [ inl graph ↦ elim graph [ inl blocks ↦ blocks | inr connections ↦ connections ] | inr feeds ↦ feeds.1 ]

pub blank_takes : (text : List ℕ) (ms : Members) → IsBlank text → parse_document text ≡ Some ms → FileTakes ms → ⊥
blank_takes text ms blank parsed takes =
    let same : ◌≡◌ {A = Option Members} (Some no_members) (Some ms) = sym (blank_document text blank) ∙ parsed in
    let is : no_members ≡ ms = cc in
    nothing_taken (subst FileTakes (sym is) takes)
