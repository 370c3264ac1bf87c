-- Byte strings that are texts.
use Rattle.std.specs.Prelude.{ℕ, List, [], ◌∷◌, IsUtf8}

-- UTF-8 (Arrow columnar format, "Utf8"). It stands for itself in loops: the search does not look into it
unfoldable pub IsText : List ℕ → Type 0
IsText bs = IsUtf8 bs

abbrev pub AreTexts : List (List ℕ) → Type 0
AreTexts [] = Unit {0}
AreTexts (s ∷ ss) = IsText s × AreTexts ss
