-- Tables that are gone over entry by entry, and how a run between them fails.
use Rattle.std.proofs.Common.{◌≡◌, ℕ, suc, ◌+◌, ◌-◌, ◌<◌, ◌≤◌, List, [], ◌∷◌, ◌++◌, length, get_or, drop, refl, sym, ap, ◌∙◌, subst, arith, inl, inr, append_assoc, append-nil, length-append}
use Rattle.std.proofs.lemmas.List.{drop_all, drop_more}
use Rattle.std.specs.Prelude.{◌⊎◌, Result, Ok, Err, IsOk}
use Rattle.stream_model.specs.Network.{State}
use Rattle.flowgraph.specs.declared.parts.BlockId.{BlockId}
use Rattle.graph_file.specs.Blocks.{Draft}
use Rattle.file_plants.specs.Opening.{Opened}
use Rattle.raw_items.specs.declared.byte_order.ByteOrder.{ByteOrder}
use Rattle.flow_core.specs.declared.fault.Fault.TheVariants.{Script}
use Rattle.flow_core.specs.declared.script.ScriptFault.TheVariants.{Memory}
use Rattle.flow_core.specs.declared.raw_fault.RawFault.{RawFault}
use Rattle.flow_core.specs.declared.raw_fault.RawFault.TheVariants.{Whole}
use Rattle.flow_core.specs.Serve.{plant_in}
use Rattle.magbelu_c.specs.declared.tables.Input.{Input}
use Rattle.magbelu_c.specs.declared.tables.Output.{Output}
use Rattle.magbelu_c.specs.Between.{AreFed, AreHeld, AreMisfed, FailsBetween, IsFed, IsMisnamed, IsTaken, NoMemory, Misnamed, RunsBetween, output_bytes, sink_of}

one_more : (n : ℕ) → n + 1 ≡ suc n
one_more n = omega arith

module _ (d : Draft) (order : ByteOrder) (n : ℕ) (inputs : List Input) (x : Input) (lt : n < length inputs) (st : State) where
  pub fed_more : (d' : Draft) → d' ≡ d → (mid last : State) → IsFed d' order n (get_or inputs n x) st mid → AreFed d order (n + 1) (drop (n + 1) inputs) mid last →
      AreFed d order n (drop n inputs) st last
  fed_more d' same mid last h rest =
      subst (λ (is : List Input). AreFed d order n is st last) (sym (drop_more inputs n x lt)) (
        mid,
        subst (λ (e : Draft). IsFed e order n (get_or inputs n x) st mid) same h,
        subst (λ (m : ℕ). AreFed d order m (drop (n + 1) inputs) mid last) (one_more n) rest,
      )

  pub misfed_more : (d' : Draft) → d' ≡ d → (mid : State) (fault : RawFault) → IsFed d' order n (get_or inputs n x) st mid → AreMisfed d order (n + 1) (drop (n + 1) inputs) mid fault →
      AreMisfed d order n (drop n inputs) st fault
  misfed_more d' same mid fault h rest =
      subst (λ (is : List Input). AreMisfed d order n is st fault) (sym (drop_more inputs n x lt)) (inr (
        mid,
        subst (λ (e : Draft). IsFed e order n (get_or inputs n x) st mid) same h,
        subst (λ (m : ℕ). AreMisfed d order m (drop (n + 1) inputs) mid fault) (one_more n) rest,
      ))

module _ (d : Draft) (n : ℕ) (outputs : List Output) (x : Output) (lt : n < length outputs) where
  pub misnamed_here : (fault : RawFault) → sink_of d n (get_or outputs n x) ≡ Err fault → IsMisnamed d n (drop n outputs) fault
  misnamed_here fault e = subst (λ (os : List Output). IsMisnamed d n os fault) (sym (drop_more outputs n x lt)) (inl e)

  -- (what is named by this output tells which it is)
  pub misnamed_more : (named : Result BlockId RawFault) → sink_of d n (get_or outputs n x) ≡ named → (fault : RawFault) → IsMisnamed d (n + 1) (drop (n + 1) outputs) fault →
      IsMisnamed d n (drop n outputs) fault
  misnamed_more named is fault rest =
      subst (λ (os : List Output). IsMisnamed d n os fault) (sym (drop_more outputs n x lt))
      (inr (subst (λ (m : ℕ). IsMisnamed d m (drop (n + 1) outputs) fault) (one_more n) rest))

  -- the next output was taken, and then the rest
  pub held_more : (st : State) (order : ByteOrder) (old new all all' : List ℕ) (count : ℕ) → IsTaken d st order n (get_or outputs n x) old new → all' ≡ all ++ (count ∷ []) →
      count ≡ length new - length old → (Comes : List ℕ → List ℕ → Type 0) → ((ls bs : List ℕ) → AreHeld d st order n (drop n outputs) ls bs → Comes (all ++ ls) (old ++ bs)) →
      (lens bytes : List ℕ) → AreHeld d st order (n + 1) (drop (n + 1) outputs) lens bytes → Comes (all' ++ lens) (new ++ bytes)
  held_more st order old new all all' count taken pushed counted Comes comes lens bytes rest =
      let own : List ℕ = output_bytes d st order (get_or outputs n x) taken.sink in
      let held : AreHeld d st order n (drop n outputs) (length own ∷ lens) (own ++ bytes) =
      subst (λ (os : List Output). AreHeld d st order n os (length own ∷ lens) (own ++ bytes)) (sym (drop_more outputs n x lt)) (
        taken.sink,
        taken.named,
        lens,
        bytes,
        refl,
        refl,
        subst (λ (m : ℕ). AreHeld d st order m (drop (n + 1) outputs) lens bytes) (one_more n) rest,
      ) in
      let grown : length new ≡ length old + length own = ap (λ (xs : List ℕ). length xs) taken.appended ∙ length-append old own in
      let long : count ≡ length own = omega (arith, counted, grown) in
      let lens_are : all ++ (length own ∷ lens) ≡ all' ++ lens =
      ap (λ (k : ℕ). all ++ (k ∷ lens)) (sym long) ∙ sym (append_assoc all (count ∷ []) lens) ∙ ap (λ (ls : List ℕ). ls ++ lens) (sym pushed) in
      let bytes_are : old ++ (own ++ bytes) ≡ new ++ bytes = sym (append_assoc old own bytes) ∙ ap (λ (bs : List ℕ). bs ++ bytes) (sym taken.appended) in
      subst (λ (ls : List ℕ). Comes ls (new ++ bytes)) lens_are (subst (λ (bs : List ℕ). Comes (all ++ (length own ∷ lens)) bs) bytes_are (comes (length own ∷ lens) (own ++ bytes) held))

-- none is left
pub held_all : (d : Draft) (n : ℕ) (outputs : List Output) (st : State) (order : ByteOrder) (lens bytes : List ℕ) → length outputs ≤ n → (Comes : List ℕ → List ℕ → Type 0) →
    ((ls bs : List ℕ) → AreHeld d st order n (drop n outputs) ls bs → Comes (lens ++ ls) (bytes ++ bs)) → Comes lens bytes
held_all d n outputs st order lens bytes over Comes comes =
    subst (λ (ls : List ℕ). Comes ls bytes) (append-nil lens) (subst (λ (bs : List ℕ). Comes (lens ++ []) bs) (append-nil bytes)
    (comes [] [] (subst (λ (os : List Output). AreHeld d st order n os [] []) (sym (drop_all n outputs over)) (refl, refl))))

module _ (file : List ℕ) (order : ByteOrder) (inputs : List Input) (outputs : List Output) where
  module _ (plant : Opened) (opens : plant_in file ≡ Ok plant) where
    pub no_memory : (fault : RawFault) → fault ≡ Whole (Script Memory) → FailsBetween file order inputs outputs fault
    no_memory fault e = subst (FailsBetween file order inputs outputs) (sym e) (NoMemory (subst IsOk (sym opens) refl))

    pub misnamed : (d : Draft) → d ≡ plant.draft → (fault : RawFault) → IsMisnamed d 0 outputs fault → FailsBetween file order inputs outputs fault
    misnamed d same fault h = Misnamed fault plant opens (subst (λ (e : Draft). IsMisnamed e 0 outputs fault) same h)

    pub untaken : (d : Draft) → d ≡ plant.draft → (fault : RawFault) → (fault ≡ Whole (Script Memory)) ⊎ IsMisnamed d 0 outputs fault → FailsBetween file order inputs outputs fault
    untaken d same fault (inl e) = no_memory fault e
    untaken d same fault (inr h) = misnamed d same fault h

pub ran_so : (file : List ℕ) (o o' : ByteOrder) (inputs : List Input) (outputs : List Output) (lens lens' bytes bytes' : List ℕ) (status : ℕ) → o ≡ o' → lens' ≡ lens → bytes' ≡ bytes →
    RunsBetween file o inputs outputs lens bytes status → RunsBetween file o' inputs outputs lens' bytes' status
ran_so file o o' inputs outputs lens lens' bytes bytes' status same e f h =
    subst (λ (p : ByteOrder). RunsBetween file p inputs outputs lens' bytes' status) same
    (subst (λ (ls : List ℕ). RunsBetween file o inputs outputs ls bytes' status) (sym e) (subst (λ (bs : List ℕ). RunsBetween file o inputs outputs lens bs status) (sym f) h))
