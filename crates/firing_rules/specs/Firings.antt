-- What the progress of all blocks keeps.
use Rattle.std.specs.Prelude.{ℕ, ◌≡◌, ◌+◌, ◌^◌, ◌<◌, List, All, count_by, nat_lt, slice_set}
use Rattle.stream_model.specs.Network as model
use Rattle.stream_model.specs.Network.{progress_at}
use Rattle.firing_rules.specs.declared.progress.Progress.{Progress}

-- how many blocks have a claim in flight and how many are done, and no block's firings pass what a word holds
pub record IsCounted (ps : List Progress) (busy done : ℕ) : Type 0 where
  pub busy_is : busy ≡ count_by (λ (p : Progress). nat_lt 0 p.claimed) ps
  pub done_is : done ≡ count_by (λ (p : Progress). p.done) ps
  pub small : All (λ (p : Progress). p.firings + p.claimed < 2 ^ 62) ps

-- the claim of block b is committed
abbrev pub committed : List model.Progress → ℕ → List model.Progress
committed ps b =
    let p = progress_at ps b in
    slice_set ps b (record p { firings = p.firings + p.claimed; claimed = 0 })

-- or given up
abbrev pub abandoned : List model.Progress → ℕ → List model.Progress
abandoned ps b = slice_set ps b (record (progress_at ps b) { claimed = 0 })
