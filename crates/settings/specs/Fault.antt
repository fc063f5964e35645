-- The texts of refusals.
use Rattle.std.specs.Prelude.{ℕ, List, ◌++◌, codes}
use Rattle.std.specs.Fmt.{decimal}
use Rattle.settings.specs.declared.fault.SettingFault.{SettingFault}
use Rattle.settings.specs.declared.fault.SettingFault.TheVariants.{Late, Memory}

-- what is printed of it
abbrev pub text_of : SettingFault → List ℕ
text_of (Late floor) = codes "set below item " ++ decimal floor
text_of Memory = codes "out of memory"
