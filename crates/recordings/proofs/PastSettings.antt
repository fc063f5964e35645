-- Settings of which those are gone that no later item reads.
use Rattle.std.proofs.Common.{◌≡◌, ℕ, zero, suc, ◌+◌, ◌-◌, ◌<◌, ◌≤◌, true, false, nat_le, cond, inl, inr, List, [], ◌∷◌, ◌++◌, Option, Some, None, All, length, get_or, refl, sym, ap, ◌∙◌, subst, arith, zero-le}
use Rattle.std.specs.Prelude.{◌==◌, filter_map}
use Rattle.std.specs.List.{Any, cons_option}
use Rattle.std.proofs.lemmas.Bool.{cases_lt}
use Rattle.std.proofs.lemmas.List.Elements.{All-nil, All-cons, All-head, All-weaker, All-filter}
use Rattle.std.proofs.lemmas.List.Sums.{fold-append}
use Rattle.stream_model.specs.Lists.{numbers_from}
use Rattle.stream_model.specs.Settings.{Value, Held, latest, setting_at, made_at, between, put_setting, IsRising}
use Rattle.stream_model.proofs.Latest.{latest-taken, latest-passed, latest-older, latest-append, latest-holds}
use Rattle.stream_model.proofs.Rising.{rising_tail, rising_head}
use Rattle.stream_model.proofs.Putting.{put-behind, put-here, put-before, put-rises, put-last}
use Rattle.settings.specs.declared.value.Value as typed
use Rattle.settings.specs.Values.{placed}
use Rattle.settings.specs.Timelines.{kept_from}
use Rattle.settings.proofs.Latest.{latest-later}
use Rattle.settings.proofs.Pruned.{kept-below}
use Rattle.recordings.specs.Recent.{ArePastSettings, settings_made}
use Rattle.recordings.proofs.Counts.{kept-at, no_more_later, no_more_than_made, put_counts, in_force_counts}

-- what is in force at an item was made at that item or before
latest-within : (h : Held) (ts : List Held) (a : ℕ) → h.at ≤ a → (latest h ts a).at ≤ a
latest-within h [] a low = low
latest-within h (t ∷ ts) a low =
    elim (cases_lt a t.at) [
      | inl later ↦ subst (λ (g : Held). g.at ≤ a) (sym (latest-passed h t ts a later)) (latest-within h ts a low)
      | inr made ↦ elim (cases_lt t.at h.at) [
        | inl older ↦ subst (λ (g : Held). g.at ≤ a) (sym (latest-older h t ts a older)) (latest-within h ts a low)
        | inr after ↦ subst (λ (g : Held). g.at ≤ a) (sym (latest-taken h t ts a made after)) (latest-within t ts a made)
      ]
    ]

pub in_force-within : (own : Value) (ts : List Held) (a : ℕ) → (setting_at own ts a).at ≤ a
in_force-within own ts a = latest-within (record { at = 0; value = own }) ts a zero-le

-- and at a later item or the same
latest-rises : (h : Held) (ts : List Held) (a b : ℕ) → IsRising ts → All (λ t. h.at ≤ t.at) ts → a ≤ b → (latest h ts a).at ≤ (latest h ts b).at
latest-rises h [] a b rising low le = omega arith
latest-rises h (t ∷ ts) a b rising low le =
    let here : h.at ≤ t.at = All-head (λ u. h.at ≤ u.at) t ts low in
    let behind : All (λ u. t.at < u.at) ts = rising_head t ts rising in
    let after : All (λ u. t.at ≤ u.at) ts = All-weaker (λ u. t.at < u.at) (λ u. t.at ≤ u.at) (λ u lt. omega arith) ts behind in
    elim (cases_lt a t.at) [
      | inl later ↦
          let one : latest h (t ∷ ts) a ≡ h = latest-passed h t ts a later ∙ latest-later h ts a (All-weaker (λ u. t.at < u.at) (λ u. a < u.at) (λ u lt. omega arith) ts behind) in
          let other : h.at ≤ (latest h (t ∷ ts) b).at = latest-holds (λ u. h.at ≤ u.at) h (t ∷ ts) b (omega arith) low in
          subst (λ (g : Held). g.at ≤ (latest h (t ∷ ts) b).at) (sym one) other
      | inr made ↦
          subst (λ (g : Held). g.at ≤ (latest h (t ∷ ts) b).at) (sym (latest-taken h t ts a made here))
          (subst (λ (g : Held). (latest t ts a).at ≤ g.at) (sym (latest-taken h t ts b (omega arith) here))
          (latest-rises t ts a b (rising_tail t ts rising) after le))
    ]

all-low : (ts : List Held) → All (λ t. 0 ≤ t.at) ts
all-low [] = All-nil (λ t. 0 ≤ t.at)
all-low (t ∷ ts) = All-cons (λ t. 0 ≤ t.at) t ts zero-le (all-low ts)

pub in_force-rises : (own : Value) (ts : List Held) (a b : ℕ) → IsRising ts → a ≤ b → (setting_at own ts a).at ≤ (setting_at own ts b).at
in_force-rises own ts a b rising le = latest-rises (record { at = 0; value = own }) ts a b rising (all-low ts) le

-- an item reads what it read where only settings are gone that were made before that which it reads, whichever older setting is there first
latest-kept : (first : ℕ) (h d : Held) (ts : List Held) (a : ℕ) → IsRising ts → All (λ t. h.at ≤ t.at) ts → d.at ≤ h.at → first ≤ (latest h ts a).at → (first ≤ h.at → d ≡ h) → latest d (kept_from first ts) a ≡ latest h ts a
latest-kept first h d [] a rising low older reads same = same reads
latest-kept first h d (t ∷ ts) a rising low older reads same =
    let here : h.at ≤ t.at = All-head (λ u. h.at ≤ u.at) t ts low in
    let behind : All (λ u. t.at < u.at) ts = rising_head t ts rising in
    let after : All (λ u. t.at ≤ u.at) ts = All-weaker (λ u. t.at < u.at) (λ u. t.at ≤ u.at) (λ u lt. omega arith) ts behind in
    elim (cases_lt a t.at) [
      | inl later ↦
          let is : latest h (t ∷ ts) a ≡ h = latest-passed h t ts a later ∙ latest-later h ts a (All-weaker (λ u. t.at < u.at) (λ u. a < u.at) (λ u lt. omega arith) ts behind) in
          let unread : All (λ u. a < u.at) (t ∷ ts) = All-cons (λ u. a < u.at) t ts later (All-weaker (λ u. t.at < u.at) (λ u. a < u.at) (λ u lt. omega arith) ts behind) in
          latest-later d (kept_from first (t ∷ ts)) a (All-filter (λ u. nat_le first u.at) (λ u. a < u.at) (t ∷ ts) unread)
          ∙ same (subst (λ (g : Held). first ≤ g.at) is reads) ∙ sym is
      | inr made ↦
          let is : latest h (t ∷ ts) a ≡ latest t ts a = latest-taken h t ts a made here in
          let reads' : first ≤ (latest t ts a).at = subst (λ (g : Held). first ≤ g.at) is reads in
          elim (cases_lt t.at first) [
            | inl gone ↦ ap (λ us. latest d us a) (kept-below first t ts gone)
                ∙ latest-kept first t d ts a (rising_tail t ts rising) after (omega arith) reads' (λ le. absurd (omega arith)) ∙ sym is
            | inr stays ↦ ap (λ us. latest d us a) (kept-at first t ts stays)
                ∙ latest-taken d t (kept_from first ts) a made (omega arith)
                ∙ latest-kept first t t ts a (rising_tail t ts rising) after (omega arith) reads' (λ le. refl) ∙ sym is
          ]
    ]

-- a setting of an item from one on is not gone
module _ (first n : ℕ) (le : first ≤ n) where
  kept_behind : (t : Held) (ts : List Held) → Any (λ (h : Held). h.at ≡ n) (kept_from first ts) → Any (λ h. h.at ≡ n) (kept_from first (t ∷ ts))
  kept_behind t ts kept =
      elim (nat_le first t.at) as (λ b. Any (λ (h : Held). h.at ≡ n) (cond b (t ∷ kept_from first ts) (kept_from first ts))) [
        | true ↦ (suc kept.0, kept.1, let lt = kept.2 in omega (arith, lt), kept.3, kept.4)
        | false ↦ kept
      ]

  kept_here : (t : Held) (ts : List Held) → t.at ≡ n → Any (λ h. h.at ≡ n) (kept_from first (t ∷ ts))
  kept_here t ts at = subst (Any (λ (h : Held). h.at ≡ n)) (sym (kept-at first t ts (omega (arith, le, at)))) (0, t, omega arith, refl, at)

  still_kept : (ts : List Held) (k : ℕ) (x : Held) → k < length ts → get_or ts k x ≡ x → x.at ≡ n → Any (λ h. h.at ≡ n) (kept_from first ts)
  still_kept [] k x lt is at = absurd (omega (arith, lt))
  still_kept (t ∷ ts) zero x lt is at = kept_here t ts (ap (λ (h : Held). h.at) is ∙ at)
  still_kept (t ∷ ts) (suc k) x lt is at = kept_behind t ts (still_kept ts k x (omega (arith, lt)) is at)

module _ (own : Value) (made : List Held) (from : ℕ) (kept : List Held) (are : ArePastSettings own made from kept) where
  pub reads_same : (a : ℕ) → from ≤ a → setting_at own kept a ≡ setting_at own made a
  reads_same a le =
      let first : Held = record { at = 0; value = own } in
      let reads = are.reads in
      let rises = in_force-rises own made from a are.rising le in
      ap (λ ts. setting_at own ts a) are.kept_is
      ∙ latest-kept are.first first first made a are.rising (all-low made) zero-le (omega (arith, reads, rises)) (λ _. refl)

  -- what is in force over items that may still be read
  pub between_same : (a b : ℕ) → from ≤ a → between own kept a b ≡ between own made a b
  between_same a b le =
      let one = reads_same a le in
      let rest : filter_map (made_at own kept) (numbers_from (suc a) (b - suc a)) ≡ filter_map (made_at own made) (numbers_from (suc a) (b - suc a)) =
      agree (made_at own kept) (made_at own made) (suc a) (b - suc a) (λ n after. ap (λ (h : Held). cond (h.at == n) (Some h) None) (reads_same n (omega (arith, le, after)))) in
      λ i. one i ∷ rest i
    where
      agree : (f g : ℕ → Option Held) (n k : ℕ) → ((a : ℕ) → n ≤ a → f a ≡ g a) → filter_map f (numbers_from n k) ≡ filter_map g (numbers_from n k)
      agree f g n zero same = refl
      agree f g n (suc k) same =
          let here : f n ≡ g n = same n (omega arith) in
          let rest : filter_map f (numbers_from (n + 1) k) ≡ filter_map g (numbers_from (n + 1) k) = agree f g (n + 1) k (λ a le. same a (omega arith)) in
          λ i. cons_option (here i) (rest i)

  -- where each item may still be read, all settings are there
  pub all_there : from ≡ 0 → kept ≡ made
  all_there none =
      let reads = are.reads in
      let low : (setting_at own made from).at ≤ from = in_force-within own made from in
      are.kept_is ∙ kept_all are.first made (omega (arith, none, reads, low))
    where
      kept_all : (first : ℕ) (ts : List Held) → first ≡ 0 → kept_from first ts ≡ ts
      kept_all first [] none = refl
      kept_all first (t ∷ ts) none = kept-at first t ts (omega arith) ∙ ap (λ us. t ∷ us) (kept_all first ts none)

  -- a setting of an item that may still be read is among them
  pub there_still : (n : ℕ) → from ≤ n → Any (λ h. h.at ≡ n) made → Any (λ h. h.at ≡ n) kept
  there_still n le any =
      let reads = are.reads in
      let within = in_force-within own made from in
      subst (Any (λ (h : Held). h.at ≡ n)) (sym are.kept_is) (still_kept are.first n (omega (arith, reads, within, le)) made any.0 any.1 any.2 any.3 any.4)

  -- how many are there
  pub all_read : length (kept_from (setting_at own made from).at made) ≤ length kept
  all_read = let all = ap length are.kept_is in let more = no_more_later are.first (setting_at own made from).at made are.reads in omega (arith, all, more)

  pub all_made : length kept ≤ length made
  all_made = let all = ap length are.kept_is in let few = no_more_than_made are.first made in omega (arith, all, few)

  -- a setting more, of such an item
  pub one_more : (h : Held) → from ≤ h.at → ArePastSettings own (put_setting h made) from (put_setting h kept)
  one_more h le = record {
    first = are.first;
    reads = reads_more;
    rising = put-rises h made are.rising;
    kept_is = kept_now;
    few = let now = ap length kept_now in
        let before = ap length are.kept_is in
        let few = are.few in
        let counts = put_counts are.first from h made low le in
        omega (arith, now, before, few, counts);
  }
    where
      g : Held
      g = setting_at own made from

      low : are.first ≤ h.at
      low = let reads = are.reads in let within = in_force-within own made from in omega (arith, reads, within, le)

      reads_more : are.first ≤ (setting_at own (put_setting h made) from).at
      reads_more =
          subst (λ (x : Held). are.first ≤ x.at)
          (sym (put-last (record { at = 0; value = own }) h made from zero-le are.rising ∙ latest-append (record { at = 0; value = own }) made (h ∷ []) from))
          (latest-holds (λ x. are.first ≤ x.at) (g) (h ∷ []) from are.reads (All-cons (λ x. are.first ≤ x.at) h [] (low) (All-nil (λ x. are.first ≤ x.at))))

      put-kept : (first : ℕ) (h : Held) (ts : List Held) → first ≤ h.at → put_setting h (kept_from first ts) ≡ kept_from first (put_setting h ts)
      put-kept first h [] low = sym (kept-at first h [] low)
      put-kept first h (t ∷ ts) low =
          elim (cases_lt t.at h.at) [
            | inl earlier ↦ elim (cases_lt t.at first) [
              | inl gone ↦ ap (put_setting h) (kept-below first t ts gone) ∙ put-kept first h ts low
                  ∙ sym (kept-below first t (put_setting h ts) gone) ∙ ap (kept_from first) (sym (put-behind h t ts earlier))
              | inr stays ↦ ap (put_setting h) (kept-at first t ts stays) ∙ put-behind h t (kept_from first ts) earlier ∙ ap (λ us. t ∷ us) (put-kept first h ts low)
                  ∙ sym (kept-at first t (put_setting h ts) stays) ∙ ap (kept_from first) (sym (put-behind h t ts earlier))
            ]
            | inr after ↦ elim (cases_lt h.at t.at) [
              | inl later ↦ ap (put_setting h) (kept-at first t ts (omega arith)) ∙ put-before h t (kept_from first ts) later ∙ ap (λ us. h ∷ us) (sym (kept-at first t ts (omega arith)))
                  ∙ sym (kept-at first h (t ∷ ts) low) ∙ ap (kept_from first) (sym (put-before h t ts later))
              | inr same ↦ ap (put_setting h) (kept-at first t ts (omega arith)) ∙ put-here h t (kept_from first ts) (omega arith)
                  ∙ sym (kept-at first h ts low) ∙ ap (kept_from first) (sym (put-here h t ts (omega arith)))
            ]
          ]

      kept_now : put_setting h kept ≡ kept_from are.first (put_setting h made)
      kept_now = ap (put_setting h) are.kept_is ∙ put-kept are.first h made low

  -- what no item from one on reads goes
  pub fewer : (to : ℕ) → from ≤ to → ArePastSettings own made to (kept_from (setting_at own kept to).at kept)
  fewer to le =
      let same = reads_same to le in
      let reads = are.reads in
      let rises = in_force-rises own made from to are.rising le in
      let left : kept_from (setting_at own kept to).at kept ≡ kept_from (setting_at own made to).at made =
      ap (λ (h : Held). kept_from h.at kept) same ∙ ap (kept_from (setting_at own made to).at) are.kept_is
      ∙ kept-kept (setting_at own made to).at are.first made (omega (arith, reads, rises)) in
      record {
        first = (setting_at own made to).at;
        reads = omega arith;
        rising = are.rising;
        kept_is = left;
        few = let now = ap length left in let few = in_force_counts own made to are.rising in omega (arith, now, few);
      }
    where
      kept-kept : (high low : ℕ) (ts : List Held) → low ≤ high → kept_from high (kept_from low ts) ≡ kept_from high ts
      kept-kept high low [] le = refl
      kept-kept high low (t ∷ ts) le =
          elim (cases_lt t.at low) [
            | inl gone ↦ ap (kept_from high) (kept-below low t ts gone) ∙ kept-kept high low ts le ∙ sym (kept-below high t ts (omega arith))
            | inr stays ↦ ap (kept_from high) (kept-at low t ts stays)
                ∙ ap (λ us. cond (nat_le high t.at) (t ∷ us) us) (kept-kept high low ts le)
          ]

-- a setting more
pub made_more : (calls : List (typed.Value × ℕ)) (v : typed.Value) (at : ℕ) → settings_made (calls ++ (v, at) ∷ []) ≡ put_setting (placed (at, v)) (settings_made calls)
made_more calls v at = fold-append (λ hs (call : typed.Value × ℕ). put_setting (placed (call.1, call.0)) hs) [] calls ((v, at) ∷ [])
