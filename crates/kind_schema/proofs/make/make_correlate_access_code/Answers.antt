use Rattle.std.proofs.Common.{◌≡◌, ◌≤◌, ℕ, List, length, false, true, Ok, Err, refl, ap, sym, ◌∙◌, subst, arith}
use Rattle.std.proofs.lemmas.Bool.{false≢true}
use Rattle.kind_model.specs.BitStreams.{correlate_access_code}
use Rattle.block_parameters.specs.declared.fault.Parameter.TheVariants.{Code, Threshold}
use Rattle.kind_schema.specs.Ranges.{parameter, is_code}
use Rattle.kind_schema.specs.Reading.{IsBad}
use Rattle.kind_schema.specs.Tables.{small_at}
use Rattle.toml.specs.View.{table_view}
use Rattle.kind_schema.proofs.Lists.{correlated, code-decides, code_bad, code_good, threshold_bad}
use Rattle.kind_schema.proofs.make.make_correlate_access_code.Goals as goal

pub returns-then-not-is_code-clause-bad : goal.returns-then-not-is_code-clause-bad
returns-then-not-is_code-clause-bad c =
    let most = small_at (table_view c.args.table.now) (parameter Threshold) in
    subst (λ text. correlated text most ≡ Err Code) (c.as_bytes-text.ensures.value ∙ c.text_at.ensures) (code_bad c.as_bytes-text.result.now most (sym c.is_code.ensures ∙ c.if-not-is_code.true))

few_digits : (text : List ℕ) → is_code text ≡ true → length text ≤ 64
few_digits text good = ((code-decides text).0 good).0.1

pub overflow_cast-length : goal.overflow_cast-length
overflow_cast-length c = let few = few_digits c.as_bytes-text.result.now (sym c.is_code.ensures ∙ c.if-not-is_code.false) in omega arith

pub returns-in-Ok : goal.returns-in-Ok
returns-in-Ok c =
    let text = c.as_bytes-text.result.now in
    let most = small_at (table_view c.args.table.now) (parameter Threshold) in
    let good = sym c.is_code.ensures ∙ c.if-not-is_code.false in
    let within = (c.in-Ok.ensures.range.0 refl).3 in
    record {
      ok = subst (λ t. correlated t most ≡ Ok (correlate_access_code c.code_of-code.result (length text) c.small.result)) (c.as_bytes-text.ensures.value ∙ c.text_at.ensures)
          (subst (λ n. correlated text n ≡ Ok (correlate_access_code c.code_of-code.result (length text) c.small.result)) c.small.ensures
          (code_good text c.small.result good within ∙ ap (λ n. Ok (correlate_access_code n (length text) c.small.result)) (sym c.code_of-code.ensures.code)))
          ∙ ap Ok (sym c.in-Ok.ensures.meaning);
      bad = tt;
    }

pub returns-in-Err-clause-bad : goal.returns-in-Err-clause-bad
returns-in-Err-clause-bad c =
    let text = c.as_bytes-text.result.now in
    let most = small_at (table_view c.args.table.now) (parameter Threshold) in
    let good = sym c.is_code.ensures ∙ c.if-not-is_code.false in
    let some = ((code-decides text).0 good).0.0 in
    let few = few_digits text good in
    let below = c.code_of-code.ensures.below in
    subst (λ t. IsBad false (correlated t most) c.in-Err.fault) (c.as_bytes-text.ensures.value ∙ c.text_at.ensures)
    (subst (λ n. IsBad false (correlated text n) c.in-Err.fault) c.small.ensures
    (threshold_bad text c.small.result c.in-Err.fault good (λ within. false≢true (c.in-Err.ensures.range.1 (some, few, below, within)))
    (λ over. let is = c.in-Err.ensures.bad_threshold.1 (some, few, below, over) in (cc))))
