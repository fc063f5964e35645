use Rattle.std.proofs.Common.{Some, refl, ap, sym, ◌∙◌, subst, map, length}
use Rattle.rates.specs.Tables.{ratio_of, IsSmall}
use Rattle.std.specs.List.{All}
use Rattle.rates.proofs.Turning.{known_flat, flat_small}
use Rattle.rates.proofs.ratios.ratios_in.Goals as goal

pub returns-in_ok-all_known : goal.returns-in_ok-all_known
returns-in_ok-all_known g c =
    record {
      are = ap (λ fs. Some (map ratio_of fs)) c.in_ok-all_known.ensures ∙ ap Some (sym (known_flat c.find_ratios.new.known)) ∙ sym (c.if-find_ratios.ensures.found refl);
      small = subst (All (IsSmall (length g.net.nodes))) (sym c.in_ok-all_known.ensures) (flat_small (length g.net.nodes) c.find_ratios.new.known c.if-find_ratios.ensures.small);
    }
