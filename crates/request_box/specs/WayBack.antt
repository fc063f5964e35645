-- What goes through the channel in which an answer comes back.
use Rattle.std.specs.Prelude.{ℕ, ◌≡◌, List, [], ◌∷◌, All, ◌⊎◌, Option, Some, None}
use mathlib.Core.Option.{some}
use lib.ListN.{get_elem?}
use Rattle.pipeline.specs.declared.requests.Request.{Request}
use Rattle.request_box.specs.declared.word.Word.{Word}

-- all passes know this request, and all words are of it
pub record AreOf (request : Request) (words : List Word) (views : List (Option Request)) : Type 0 where
  pub said : All (λ word. word.request.value ≡ request) words
  pub known : (pass : ℕ) (v : Option Request) → get_elem? views pass ≡ some v → v ≡ Some request

-- one pass is there, which knows of no request, and no word; or all is of one request
abbrev pub IsOneWay : List Word → List (Option Request) → Type 0
IsOneWay words views = ((words ≡ []) × (views ≡ None ∷ [])) ⊎ ((request : Request) × AreOf request words views)
