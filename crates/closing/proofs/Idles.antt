-- Closing sources leaves how far the blocks are, so that what is idle stays so.
use Rattle.std.proofs.Common.{◌≡◌, ℕ, zero, suc, true, refl, ◌∙◌}
use Rattle.stream_model.specs.Network.{Network, State}
use Rattle.stream_model.specs.Machine.{is_idle}
use Rattle.plant.proofs.Idles.{close-progress, idle-same}
use Rattle.closing.specs.Closing.{closed_below}

closed-progress : (net : Network) (st : State) (n : ℕ) → (closed_below net st n).progress ≡ st.progress
closed-progress net st zero = refl
closed-progress net st (suc n) = close-progress net (closed_below net st n) n ∙ closed-progress net st n

pub closed-idle : (net : Network) (st : State) (n : ℕ) → is_idle st ≡ true → is_idle (closed_below net st n) ≡ true
closed-idle net st n h = idle-same st (closed_below net st n) (closed-progress net st n) h
