-- What a job was given, by the facts under which its block may do it.
use Rattle.std.proofs.Common.{◌≡◌, ℕ, ◌*◌, ◌+◌, ◌∙◌, ℤ, ap, sym, arith, List, length, map, get_or}
use Rattle.std.proofs.lemmas.List.{get_or-map, length-map}
use Rattle.stream_model.specs.Settings as model
use Rattle.stream_model.specs.Network.{Network, node_at}
use Rattle.items.specs.declared.stream_items.Items.{Items}
use Rattle.items.specs.Items.{type_of, numbers_of}
use Rattle.settings.specs.declared.value.Held.{Held}
use Rattle.block_trait.specs.Work.{HasWorked, IsWorkOf}
use Rattle.claimed_work.specs.Jobs.{CanDo, WasFed, AreGiven, IsWorked, job_of}

pub was_fed : (net : Network) (windows : List Items) (held : List Held) (outputs : List Items) (count_out block first count word : ℕ)
    → CanDo net (job_of count_out block first count windows held word) windows held outputs → WasFed net (job_of count_out block first count windows held word)
was_fed net windows held outputs count_out block first count word can = record {
  settings = can.settings;
  streams = can.streams;
  fed = can.fed;
  wanted = can.wanted;
  least = rw (length-map windows numbers_of) can.inputs_least;
  most = rw (length-map windows numbers_of) can.inputs_most;
}

-- items of the same types are of the type that the block gives
pub given_like : (net : Network) (block : ℕ) (outputs places : List Items) → map type_of outputs ≡ map type_of places → AreGiven net block places → AreGiven net block outputs
given_like net block outputs places same given = λ k d within.
    let long : length outputs ≡ length places = sym (length-map outputs type_of) ∙ ap length same ∙ length-map places type_of in
    sym (get_or-map type_of outputs k d (type_of d) within) ∙ ap (λ ts. get_or ts k (type_of d)) same
    ∙ get_or-map type_of places k d (type_of d) (omega (arith, within, long)) ∙ given k d (omega (arith, within, long))

-- what the block made of a job, the job has made
pub is_worked : (net : Network) (windows : List Items) (held : List Held) (outputs places : List Items) (block first count word next : ℕ)
    → CanDo net (job_of (length places) block first count windows held word) windows held places
    → (let n = node_at net block in HasWorked n.meaning (n.multiple * first) (n.multiple * count) word windows held places outputs)
    → (let n = node_at net block in (ts : List model.Held) (xs : List (List ℤ)) → IsWorkOf n.meaning ts xs (n.multiple * first) (n.multiple * count) word windows held →
    next ≡ n.meaning.word ts xs (n.multiple * first + n.multiple * count))
    → IsWorked net (job_of (length outputs) block first count windows held word) windows outputs next
is_worked net windows held outputs places block first count word next can worked words =
    let long : length outputs ≡ length places = sym (length-map outputs type_of) ∙ ap length worked.types ∙ length-map places type_of in
    rw long record {
      fed = was_fed net windows held places (length places) block first count word can;
      taken = can.types;
      given = given_like net block outputs places worked.types (λ k d within. (can.ready k d within).item);
      done = record {
        outputs = λ ts xs fed. worked.items ts xs fed;
        word = λ ts xs fed. words ts xs fed;
      };
    }
