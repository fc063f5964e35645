use Rattle.std.proofs.Common.{◌≡◌, ℕ, ◌+◌, ◌*◌, ◌<◌, ◌≤◌, map, length, get_or}
use Rattle.stream_model.specs.Lists.{item, listed}
use Rattle.stream_model.specs.Meaning.{input}
use Rattle.items.specs.declared.stream_items.Items.{Items}
use Rattle.items.specs.Items.{type_of, numbers_of, spare_of}
use Rattle.rate_blocks.proofs.deinterleave.DeinterleaveBlock.work.Given as goal

abbrev pub invariant-loop-at : goal.invariant-loop-at
invariant-loop-at l = record {
  done : (p : ℕ) (d : Items) → p < l.at →
      (numbers_of (get_or l.out p d) ≡ listed l.count (λ k. item (input (map numbers_of l.windows) 0) (k * l.step + p)))
      × (type_of (get_or l.out p d) ≡ type_of (get_or l.initial.out p d))
      × (spare_of (get_or l.initial.out p d) ≤ spare_of (get_or l.out p d) + length (numbers_of (get_or l.out p d)));
  rest : (p : ℕ) (d : Items) → l.at ≤ p → p < length l.out → get_or l.out p d ≡ get_or l.initial.out p d;
}
