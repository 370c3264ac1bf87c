-- The forms of words.
use Rattle.std.proofs.Common.{◌≡◌, ℕ, Bool, true, false, List, [], ◌∷◌, Some, None, refl, sym, ap, ◌∙◌}
use Rattle.std.specs.Prelude.{Option, cond, codes}
use Rattle.std.specs.Option.{option_and_then}
use Rattle.std.specs.Str.{bytes_eq}
use Rattle.std.proofs.lemmas.Slice.Eq.{bytes_eq-Decides}
use Rattle.rewrite_words.specs.Numbers.{number_of}
use Rattle.rewrite_words.specs.Sample.{FormsExclude, sample_of, sized}
use Rattle.rewrite_words.specs.Words.{numbered_of, options_of, options_with, setting_of, settings_of}

if_some : (b : Bool) (o : Option ℕ) (n : ℕ) → cond b o None ≡ Some n → b ≡ true
if_some true o n e = refl
if_some false o n e = absurd cc

-- a list that begins with a word of no option
pub exclude : FormsExclude
unfolding options_of setting_of numbered_of
exclude [] n e = absurd cc
exclude (name ∷ []) n e = absurd cc
exclude (name ∷ a ∷ b ∷ words) n e = absurd cc
exclude (name ∷ number ∷ []) n e =
    let is : name ≡ codes "sample" = (bytes_eq-Decides name (codes "sample")).0 (if_some (bytes_eq name (codes "sample")) (option_and_then sized (number_of number)) n e) in
    ap (λ (word : List ℕ). option_and_then options_with (settings_of (word ∷ number ∷ []))) is
