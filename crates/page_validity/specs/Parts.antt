-- The selected bits of a page that are left.
use Rattle.std.specs.Prelude.{◌≡◌, ℕ, ◌+◌, ◌<◌, ◌^◌, List, [], ◌∷◌, ◌++◌, map, Option, Some, None, Result, Ok, Err}
use Rattle.columns_base.specs.declared.error.Error.{Error}
use Rattle.pq_bitmaps.specs.Selected.{Says, Step, fails, gives}
use Rattle.pq_bitmaps.specs.Stretch.{IsStretch, size_of, stretch_bits}
use Rattle.pq_bitmaps.specs.declared.part.FilteredHybridEncoded.TheVariants.{Skipped}
use Rattle.page_validity.specs.Validity.{as_level, level_fault}
use Rattle.page_validity.specs.declared.picked.Picked.{Picked}

abbrev pub picked_steps : Picked → List Step
picked_steps p = map gives (stretch_bits p.rest) ++ map as_level p.parts.steps

abbrev pub picked_left : Picked → ℕ
picked_left p = size_of p.rest + p.parts.left

pub record IsPicked (p : Picked) : Type 0 where
  pub rest : IsStretch p.rest
  pub counted : picked_left p < 2 ^ 64

-- nothing, an error, bits that are now begun, or a part that is passed over
abbrev pub Finds : Picked → Option (Result (Option ℕ) Error) → Picked → Type 0
Finds p None q = (picked_steps p ≡ []) × (picked_steps q ≡ []) × (picked_left p ≡ 0) × (picked_left q ≡ 0)
Finds p (Some (Err e)) q = (e ≡ level_fault) × (picked_steps p ≡ fails e ∷ []) × (picked_steps q ≡ []) × (picked_left q ≡ 0)
Finds p (Some (Ok None)) q = (picked_steps q ≡ picked_steps p) × (picked_left q ≡ picked_left p) × (0 < size_of q.rest)
Finds p (Some (Ok (Some n))) q = (said : List Step) × Says (Skipped n) said × (picked_steps p ≡ said ++ picked_steps q) × (picked_left q ≡ picked_left p)
