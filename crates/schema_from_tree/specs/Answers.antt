-- What a call answers that is refused only for want of memory.
use Rattle.std.specs.Prelude.{◌≡◌, Result, Ok, Err}
use Rattle.columns_base.specs.declared.error.Error.{Error}
use Rattle.columns_base.specs.declared.error.Error.TheVariants.{Memory}

-- what is given, as its view sees it, is the value, unless memory ran out
abbrev pub Gives : {X Y : Type 0} → (X → Y) → Result X Error → Y → Type 0
Gives see (Ok x) value = see x ≡ value
Gives see (Err e) value = e ≡ Memory
