-- Words that are no name.
use Rattle.std.proofs.Common.{◌≡◌, ℕ, Bool, true, false, List, codes, Option, Some, None, MatchOption, IsSomeAnd, option_map, refl, ap}
use Rattle.std.specs.Str.{bytes_eq}
use Rattle.std.proofs.lemmas.Slice.Eq.{bytes_eq-Decides}
use Rattle.rewrite_words.specs.declared.setting.Setting.{Setting}
use Rattle.rewrite_words.specs.Words.{numbered_of, setting_of}

not_named : (word name : List ℕ) → (word ≡ name → ⊥) → bytes_eq word name ≡ false
not_named word name h = by (bytes_eq word name) refl
  where
    by : (b : Bool) → bytes_eq word name ≡ b → b ≡ false
    by false e = refl
    by true e = absurd (h ((bytes_eq-Decides word name).0 e))

-- a word that is no name asks for what its number says
pub no_name : (word : List ℕ) → (word ≡ codes "--version=1" → ⊥) → (word ≡ codes "--version=2" → ⊥) → (word ≡ codes "--no-stats" → ⊥) → (word ≡ codes "--delta" → ⊥)
    → (word ≡ codes "--ignore-key" → ⊥) → setting_of word ≡ numbered_of word
unfolding setting_of
no_name word a b c d e =
    rw (not_named word (codes "--version=1") a) (rw (not_named word (codes "--version=2") b) (rw (not_named word (codes "--no-stats") c)
    (rw (not_named word (codes "--delta") d) (rw (not_named word (codes "--ignore-key") e) refl))))

-- what `map` gives by a variant
pub mapped : (asks : ℕ → Setting) (o : Option ℕ) (r : Option Setting) → MatchOption o (r ≡ None) (λ x. IsSomeAnd r (λ y. y ≡ asks x)) → r ≡ option_map asks o
mapped asks None r h = h
mapped asks (Some x) None h = absurd h
mapped asks (Some x) (Some y) h = ap Some h
