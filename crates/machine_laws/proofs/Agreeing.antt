-- Two jobs agree where they are the same.
use Rattle.std.proofs.Common.{◌≡◌, ℤ, true, List, [], ◌∷◌, refl, subst, eqb-true, ap}
use Rattle.std.specs.Prelude.{◌&&◌, ◌==◌}
use Rattle.std.specs.Ordering.{int_eq}
use Rattle.std.proofs.lemmas.Bool.{and_parts, and_from, eq-eqb}
use Rattle.std.proofs.lemmas.Bool.Decides.{Decides-int_eq}
use Rattle.stream_model.specs.Settings.{Value, Number, Taps, Held}
use Rattle.stream_model.specs.Machine.{Job, lists_agree, windows_agree, values_agree, settings_agree, jobs_agree}

lists_same : (xs ys : List ℤ) → lists_agree xs ys ≡ true → xs ≡ ys
lists_same [] [] e = refl
lists_same [] (y ∷ ys) e = absurd (cc)
lists_same (x ∷ xs) [] e = absurd (cc)
lists_same (x ∷ xs) (y ∷ ys) e =
    let parts = and_parts (int_eq x y) (lists_agree xs ys) e in
    let head : x ≡ y = (Decides-int_eq x y).0 parts.0 in
    let tail = lists_same xs ys parts.1 in
    cc

lists-itself : (xs : List ℤ) → lists_agree xs xs ≡ true
lists-itself [] = refl
lists-itself (x ∷ xs) = and_from (int_eq x x) (lists_agree xs xs) ((Decides-int_eq x x).1 refl) (lists-itself xs)

windows_same : (xs ys : List (List ℤ)) → windows_agree xs ys ≡ true → xs ≡ ys
windows_same [] [] e = refl
windows_same [] (y ∷ ys) e = absurd (cc)
windows_same (x ∷ xs) [] e = absurd (cc)
windows_same (x ∷ xs) (y ∷ ys) e =
    let parts = and_parts (lists_agree x y) (windows_agree xs ys) e in
    let head = lists_same x y parts.0 in
    let tail = windows_same xs ys parts.1 in
    cc

windows-itself : (xs : List (List ℤ)) → windows_agree xs xs ≡ true
windows-itself [] = refl
windows-itself (x ∷ xs) = and_from (lists_agree x x) (windows_agree xs xs) (lists-itself x) (windows-itself xs)

values_same : (v w : Value) → values_agree v w ≡ true → v ≡ w
values_same (Number x) (Number y) e = ap Number ((Decides-int_eq x y).0 e)
values_same (Number x) (Taps ys) e = absurd (cc)
values_same (Taps xs) (Number y) e = absurd (cc)
values_same (Taps xs) (Taps ys) e = ap Taps (lists_same xs ys e)

values-itself : (v : Value) → values_agree v v ≡ true
values-itself (Number x) = (Decides-int_eq x x).1 refl
values-itself (Taps xs) = lists-itself xs

settings_same : (gs hs : List Held) → settings_agree gs hs ≡ true → gs ≡ hs
settings_same [] [] e = refl
settings_same [] (h ∷ hs) e = absurd (cc)
settings_same (g ∷ gs) [] e = absurd (cc)
settings_same (g ∷ gs) (h ∷ hs) e =
    let rest = and_parts (g.at == h.at && values_agree g.value h.value) (settings_agree gs hs) e in
    let first = and_parts (g.at == h.at) (values_agree g.value h.value) rest.0 in
    let at = eqb-true g.at h.at first.0 in
    let value = values_same g.value h.value first.1 in
    let head : g ≡ h = (λ i. record { at = at i; value = value i }) in
    let tail = settings_same gs hs rest.1 in
    cc

settings-itself : (hs : List Held) → settings_agree hs hs ≡ true
settings-itself [] = refl
settings-itself (h ∷ hs) =
    and_from (h.at == h.at && values_agree h.value h.value) (settings_agree hs hs) (and_from (h.at == h.at) (values_agree h.value h.value) (eq-eqb h.at h.at refl) (values-itself h.value)) (settings-itself hs)

pub jobs_same : (i j : Job) → jobs_agree i j ≡ true → i ≡ j
jobs_same i j e =
    let a = and_parts (i.block == j.block && i.outputs == j.outputs && i.first == j.first && i.count == j.count && windows_agree i.windows j.windows && settings_agree i.held j.held) (i.word == j.word) e in
    let b = and_parts (i.block == j.block && i.outputs == j.outputs && i.first == j.first && i.count == j.count && windows_agree i.windows j.windows) (settings_agree i.held j.held) a.0 in
    let c = and_parts (i.block == j.block && i.outputs == j.outputs && i.first == j.first && i.count == j.count) (windows_agree i.windows j.windows) b.0 in
    let d = and_parts (i.block == j.block && i.outputs == j.outputs && i.first == j.first) (i.count == j.count) c.0 in
    let f = and_parts (i.block == j.block && i.outputs == j.outputs) (i.first == j.first) d.0 in
    let g = and_parts (i.block == j.block) (i.outputs == j.outputs) f.0 in
    let block = eqb-true i.block j.block g.0 in
    let outputs = eqb-true i.outputs j.outputs g.1 in
    let first = eqb-true i.first j.first f.1 in
    let count = eqb-true i.count j.count d.1 in
    let windows = windows_same i.windows j.windows c.1 in
    let held = settings_same i.held j.held b.1 in
    let word = eqb-true i.word j.word a.1 in
    λ k. record { block = block k; outputs = outputs k; first = first k; count = count k; windows = windows k; held = held k; word = word k }

jobs-itself : (i : Job) → jobs_agree i i ≡ true
jobs-itself i =
    let g = and_from (i.block == i.block) (i.outputs == i.outputs) (eq-eqb i.block i.block refl) (eq-eqb i.outputs i.outputs refl) in
    let f = and_from _ (i.first == i.first) g (eq-eqb i.first i.first refl) in
    let d = and_from _ (i.count == i.count) f (eq-eqb i.count i.count refl) in
    let c = and_from _ (windows_agree i.windows i.windows) d (windows-itself i.windows) in
    let b = and_from _ (settings_agree i.held i.held) c (settings-itself i.held) in
    and_from _ (i.word == i.word) b (eq-eqb i.word i.word refl)

pub jobs_agree-same : (i j : Job) → i ≡ j → jobs_agree i j ≡ true
jobs_agree-same i j e = subst (λ k. jobs_agree i k ≡ true) e (jobs-itself i)
