-- The machine values of a `Held`. Assumes `Logic`.
use Rattle.std.proofs.Common.{◌≡◌, ℕ, List, [], ◌∷◌, ◌++◌, refl, subst, lit<}
use mathlib.Core.Bool.{Bool, true, false}
use seplogic.Ra.Ura.{Ura}
use lib.Dec.{T}
use mir.Raw.{raw as bare}
use mir.Val.{Val, has_ty, WT, vbool, vstruct, vcons, vnil, of_list}
use base.Logic.{id⊢, via, never, never_e, fst∗}
use base.Fml.{ftrue}
use types.Logic.{Logic, sem}
use types.Kit.{given, learn, use1, Item, Goal, Seq, Step, step, ‵, ◌$◌, drop, fsplit, fjoin, fpick, fpack, feq_i, feq_l}
use denote.RattleType.{Valss}
use denote.Builtin.{RawPtr, bool}
use denote.Memory.{lone}
use denote.RawPtr.{Ptr, block_ptr, null_ptr, ptr_val, in_a_block}
use denote.Steps.{nothing}
use denote.Struct.Struct.{within}
use denote.Struct.Owning.{shape}
use Rattle.std.specs.Prelude.{Option, Some, None}
use Rattle.std_alloc.specs.Box.Ownership.{box_owns}
use Rattle.magbelu_c.proofs.HandleRows.{R}
use Rattle.magbelu_c.specs.contracts.handle.Handle as handle
use Rattle.magbelu_c.specs.Handles.{Kept, frees, holds}

abbrev pub word : Ptr → Bool → Val
word p b = vstruct (vcons (ptr_val p) (vcons (vbool b) vnil))

abbrev pub Good : Val → Type 0
Good v = T (has_ty (mir.Syntax.ty_struct [] (mir.Syntax.tcons mir.Syntax.ty_ptr (mir.Syntax.tcons mir.Syntax.ty_bool mir.Syntax.tnil))) v) × WT v

pub word_good : (p : Ptr) (b : Bool) → Good (word p b)
word_good (block_ptr a o) b = (tt, (tt, (tt, tt)))
word_good null_ptr b = (tt, (record { fits = lit< tt }, (tt, tt)))

module _ {M : Type 1} {𝓤 : Ura M} {𝓛 : Logic 𝓤} {K : Type 0} {Γ : List (Item 𝓤)} {G : Goal 𝓤 𝓛.H} where
  -- a handle is made of its fields and what it owns
  pub handle_in : K → (p : Ptr) (b : Bool) (x : Option Kept)
      → Step K 𝓛 (‵ (handle.the_row.own_val (record { at = p; is_open = b; plant = x }) (word p b ∷ [])) ∷ Γ) G (‵ (holds b p x) ∷ Γ) G
  handle_in t p b x = step (λ s.
      nothing t $ feq_i t (List Val) (vbool b ∷ []) (vbool b ∷ []) refl $ fjoin t $ feq_i t (List Val) (ptr_val p ∷ []) (ptr_val p ∷ []) refl $ fjoin t $
      feq_i t (List Val) (word p b ∷ []) (word p b ∷ []) refl $ fjoin t $
      fpack t (Valss (RawPtr ∷ bool ∷ [])) (within (shape handle.the_type) (p, (b, tt)) (word p b ∷ [])) (ptr_val p ∷ [], (vbool b ∷ [], tt)) $ fjoin t $ s)

  -- and taken apart
  pub handle_out : K → (d : handle.the_row.Denot) (vs : List Val) → (vs ≡ word d.at d.is_open ∷ [] → Seq K 𝓛 (‵ (holds d.is_open d.at d.plant) ∷ Γ) G) → Seq K 𝓛 (‵ (handle.the_row.own_val d vs) ∷ Γ) G
  handle_out t d vs k =
      fsplit t $ fpick t (λ vss. fsplit t $ feq_l t (λ ev. fsplit t $ feq_l t (λ ep. fsplit t $ feq_l t (λ eb. drop t $
      k (subst (λ (bs : List Val). vs ≡ vstruct (of_list (ptr_val d.at ∷ (bs ++ []))) ∷ []) eb (subst (λ (ps : List Val). vs ≡ vstruct (of_list (ps ++ (vss.1.0 ++ []))) ∷ []) ep ev))))))

  -- it is open and has a box, or it is not and has none
  pub either : K → (b : Bool) (p : Ptr) (x : Option Kept)
      → ((a o : ℕ) (y : Kept) → b ≡ true → p ≡ block_ptr a o → x ≡ Some y → Seq K 𝓛 (‵ (box_owns frees R (block_ptr a o) y) ∷ Γ) G)
      → (b ≡ false → x ≡ None → Seq K 𝓛 (‵ ftrue ∷ Γ) G) → Seq K 𝓛 (‵ (holds b p x) ∷ Γ) G
  either t true p (Some y) one none = in_a_block t p (λ q. box_owns frees R q y) (fst∗ 𝓤 (never 𝓤) (sem 𝓛 (frees (bare (lone R.mir)) null_ptr))) (λ a o e. one a o y refl e refl)
  either t true p None one none = use1 𝓛 (given ⊥ (‵ ftrue)) (via 𝓤 (never 𝓤) (id⊢ 𝓤 _) (never_e 𝓤 _)) $ learn t (λ z. absurd z)
  either t false p (Some y) one none = use1 𝓛 (given ⊥ (‵ ftrue)) (via 𝓤 (never 𝓤) (id⊢ 𝓤 _) (never_e 𝓤 _)) $ learn t (λ z. absurd z)
  either t false p None one none = none refl refl
