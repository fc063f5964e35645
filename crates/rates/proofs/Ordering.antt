-- Connections placed in order, those to a block before those from it.
use Rattle.std.proofs.Common.{◌≡◌, ℕ, ◌+◌, ◌<◌, ◌≤◌, Bool, true, false, List, [], ◌∷◌, ◌++◌, length, get_or, set, arith, ap, sym, ◌∙◌, subst, inl, inr, below_more}
use Rattle.std.proofs.lemmas.Bool.{cases_eq, cases_lt}
use Rattle.std.proofs.lemmas.List.{length-set, length-append, get_or-set_same, get_or-set_other, get_or_append_left}
use Rattle.std.proofs.Math.Seq.{get_or-append_seam}
use Rattle.std.proofs.lemmas.List.Elements.{All-append, All-cons, All-nil}
use Rattle.stream_model.specs.Network.{Network, HasLevels, no_connection}
use Rattle.rates.specs.Tables.{connection_at}
use Rattle.rates.specs.Counts.{IsAmong, IsOrder, IsPlaced, AreReady, HasPlaced}
use Rattle.rates.proofs.Following.{true_false}

among_more : (xs : List ℕ) (x count wide k : ℕ) → count ≤ length xs → count ≤ wide → IsAmong xs count k → IsAmong (xs ++ x ∷ []) wide k
among_more xs x count wide k few less among = (among.0, (let h = among.1 in omega arith), get_or_append_left xs (x ∷ []) 0 among.0 (let h = among.1 in omega arith) ∙ among.2)

module _ (net : Network) (ready old placed : List Bool) (order : List ℕ) (known : AreReady net old ready) (kept : (k : ℕ) → get_or old k false ≡ true → get_or placed k false ≡ true)
    (placing : IsPlaced net placed order) (number : ℕ) (in' : number < length net.connections) where
  -- the marks after one more
  pub still : (k : ℕ) → get_or placed k false ≡ true → get_or (set placed number true) k false ≡ true
  still k e =
      elim (cases_eq k number) [
        | inl same ↦ ap (λ i. get_or (set placed number true) i false) same ∙ get_or-set_same placed number true false (let m = placing.marks in omega arith)
        | inr other ↦ get_or-set_other placed number k true false other ∙ e
      ]

  pub marked : get_or (set placed number true) number false ≡ true
  marked = get_or-set_same placed number true false (let m = placing.marks in omega arith)

  pub one_more : get_or ready (connection_at net number).from false ≡ true → IsPlaced net (set placed number true) (order ++ number ∷ [])
  one_more from =
      record {
        marks = length-set placed number true ∙ placing.marks;
        among = λ k h e. elim (cases_eq k number) [
          | inl same ↦ (length order, (let l = length-append order (number ∷ []) in omega arith), get_or-append_seam order number [] 0 ∙ sym same)
          | inr other ↦ among_more order number (length order) (length (order ++ number ∷ [])) k (omega arith) (let l = length-append order (number ∷ []) in omega arith)
              (placing.among k h (sym (get_or-set_other placed number k true false other) ∙ e))
        ];
        in_net = All-append (λ k. k < length net.connections) order (number ∷ []) placing.in_net (All-cons (λ k. k < length net.connections) number [] in' (All-nil (λ k. k < length net.connections)));
        writers = λ i k h lt to. elim (cases_lt i (length order)) [
          | inl early ↦ among_more order number i i k (omega arith) (omega arith)
              (placing.writers i k early lt (to ∙ ap (λ j. (connection_at net j).from) (get_or_append_left order (number ∷ []) 0 i early)))
          | inr late ↦ (let l = length-append order (number ∷ []) in
              let last : i ≡ length order = omega arith in
              let ends : (connection_at net k).to ≡ (connection_at net number).from = to ∙ ap (λ j. (connection_at net (get_or (order ++ number ∷ []) j 0)).from) last ∙ ap (λ j. (connection_at net j).from) (get_or-append_seam order number [] 0) in
              among_more order number (length order) i k (omega arith) (omega arith) (placing.among k lt (kept k (known.full (connection_at net number).from k from lt ends))))
        ];
      }

-- so many connections were looked at, and those of them from blocks that are ready are placed
pub record IsPlacing (net : Network) (ready old placed : List Bool) (order : List ℕ) (count : ℕ) : Type 0 where
  pub placing : IsPlaced net placed order
  pub kept : (k : ℕ) → get_or old k false ≡ true → get_or placed k false ≡ true
  pub more : (k : ℕ) → k < count → get_or ready (connection_at net k).from false ≡ true → get_or placed k false ≡ true

module _ (net : Network) (ready old placed : List Bool) (order : List ℕ) (number : ℕ) (placing : IsPlacing net ready old placed order number) where
  pub place_one : AreReady net old ready → number < length net.connections → get_or ready (connection_at net number).from false ≡ true →
      IsPlacing net ready old (set placed number true) (order ++ number ∷ []) (number + 1)
  place_one known in' from =
      record {
        placing = one_more net ready old placed order known placing.kept placing.placing number in' from;
        kept = λ k e. still net ready old placed order known placing.kept placing.placing number in' k (placing.kept k e);
        more = below_more _ _ (λ k h e. still net ready old placed order known placing.kept placing.placing number in' k (placing.more k h e))
            (λ e. marked net ready old placed order known placing.kept placing.placing number in');
      }

  pub place_none : (get_or ready (connection_at net number).from false ≡ true → get_or placed number false ≡ true) → IsPlacing net ready old placed order (number + 1)
  place_none there = record { placing = placing.placing; kept = placing.kept; more = below_more _ _ placing.more there }

-- after so many rounds the connections from blocks of lower levels are placed
pub record IsRound (net : Network) (level : ℕ → ℕ) (placed ready : List Bool) (order : List ℕ) (round : ℕ) : Type 0 where
  pub placing : IsPlaced net placed order
  pub long : length ready ≡ length net.nodes
  pub lower : (k : ℕ) → k < length net.connections → level (connection_at net k).from < round → get_or placed k false ≡ true

module _ (net : Network) (level : ℕ → ℕ) (levels : HasLevels net level) where
  pub next_round : (placed before ready : List Bool) (order : List ℕ) (round : ℕ) → IsRound net level placed before order round → AreReady net placed ready →
      (now : List Bool) (longer' : List ℕ) → HasPlaced net ready placed now longer' → IsRound net level now ready longer' (round + 1)
  next_round placed before ready order round rounded known now longer' done =
      record {
        placing = done.placing;
        long = known.long;
        lower = λ k h low.
            let ends = levels.rises k no_connection h in
            done.more k h (known.all (connection_at net k).from ends.0
            (λ j lt to. rounded.lower j lt
            (let rise = levels.rises j no_connection lt in
            let up = rise.2 in
            let e : level (connection_at net j).to ≡ level (connection_at net k).from = ap level to in
            omega arith)));
      }

  pub all_rounds : (placed ready : List Bool) (order : List ℕ) (round : ℕ) → IsRound net level placed ready order round → length net.nodes ≤ round → IsOrder net order
  all_rounds placed ready order round rounded many =
      record {
        in_net = rounded.placing.in_net;
        all = λ k h. rounded.placing.among k h
            (rounded.lower k h (let ends = levels.rises k no_connection h in let few = levels.few (connection_at net k).from ends.0 in omega arith));
        writers = rounded.placing.writers;
      }

  pub first_round : (placed ready : List Bool) (order : List ℕ) → length placed ≡ length net.connections → ((k : ℕ) → get_or placed k false ≡ false) → length ready ≡ length net.nodes → order ≡ [] →
      IsRound net level placed ready order 0
  first_round placed ready order marks none long empty =
      subst (λ os. IsRound net level placed ready os 0) (sym empty)
      (record {
        placing = record {
          marks = marks;
          among = λ k h e. absurd (true_false (get_or placed k false) e (none k));
          in_net = λ k d lt. absurd (omega arith);
          writers = λ i k h lt to. absurd (omega arith);
        };
        long = long;
        lower = λ k h lt. absurd (omega arith);
      })
