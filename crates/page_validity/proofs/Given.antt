-- Bits that are given.
use Rattle.std.proofs.Common.{◌≡◌, ℕ, ◌+◌, ◌<◌, Bool, List, [], ◌∷◌, ◌++◌, map, replicate, Some, Ok, refl, sym, ap, ◌∙◌, arith, append_assoc}
use denote.Ref.{Bor}
use Rattle.std.proofs.lemmas.List.{map-append}
use Rattle.pq_bitmaps.specs.Called.{Bit, given_bits}
use Rattle.columns_core.specs.Bits.{bits_from}
use Rattle.pq_bitmaps.specs.Selected.{GivesSelected, Says, Selection, Step, gives, passes}
use Rattle.pq_bitmaps.specs.Stretch.{size_of, stretch_bits}
use Rattle.pq_bitmaps.specs.declared.part.FilteredHybridEncoded.TheVariants as P
use Rattle.pq_bitmaps.specs.declared.stretch.Stretch.{Stretch}
use Rattle.pq_bitmaps.specs.declared.stretch.Stretch.TheVariants as S
use Rattle.page_validity.specs.Validity.{as_level, level_steps}

given_steps : (xs : List Bool) (more : List Bit) → level_steps (given_bits xs ++ more) ≡ map gives xs ++ level_steps more
given_steps [] more = refl
given_steps (x ∷ xs) more = ap (λ (t : List Step). gives x ∷ t) (given_steps xs more)

pub cut_steps : (all first others : List Bool) (more : List Bit) → all ≡ first ++ others → level_steps (given_bits all ++ more) ≡ map gives first ++ level_steps (given_bits others ++ more)
cut_steps all first others more parts =
    ap (λ (bs : List Bool). level_steps (given_bits bs ++ more)) parts
    ∙ ap level_steps (ap (λ (t : List Bit). t ++ more) (map-append Ok first others) ∙ append_assoc (given_bits first) (given_bits others) more)
    ∙ given_steps first (given_bits others ++ more)

-- ---- parts

no_bits : (s : Stretch) → size_of s ≡ 0 → stretch_bits s ≡ []
no_bits (S.Bitmap values offset n) e = rw e refl
no_bits (S.Repeated b n) e = rw e refl

passed_levels : (bs : List Bool) → map as_level (map (λ b. passes b) bs) ≡ map (λ b. passes b) bs
passed_levels [] = refl
passed_levels (b ∷ bs) = ap (λ (t : List Step). passes b ∷ t) (passed_levels bs)

given_levels : (bs : List Bool) → map as_level (map (λ b. gives b) bs) ≡ map (λ b. gives b) bs
given_levels [] = refl
given_levels (b ∷ bs) = ap (λ (t : List Step). gives b ∷ t) (given_levels bs)

pub skipped_found : (rest : Stretch) (before after : Selection) (n : ℕ) → size_of rest ≡ 0 → GivesSelected before (Some (Ok (P.Skipped n))) after
    → (said : List Step) × Says (P.Skipped n) said × (map gives (stretch_bits rest) ++ map as_level before.steps ≡ said ++ (map gives (stretch_bits rest) ++ map as_level after.steps)) × (size_of rest + after.left ≡ size_of rest + before.left)
skipped_found rest before after n none g =
    let said = g.0.0 in
    let bs = g.0.1.0 in
    let is : said ≡ map (λ b. passes b) bs = g.0.1.2 in
    let levels : map as_level said ≡ said = ap (map as_level) is ∙ passed_levels bs ∙ sym is in (
      said,
      g.0.1,
      rw (no_bits rest none) (ap (map as_level) g.0.2 ∙ map-append as_level said after.steps ∙ ap (λ (t : List Step). t ++ map as_level after.steps) levels),
      omega (arith, g.1),
    )

bits_found : (rest : Stretch) (bs : List Bool) (said before after : List Step) → size_of rest ≡ 0 → said ≡ map (λ b. gives b) bs → before ≡ said ++ after → map gives bs ++ map as_level after ≡ map gives (stretch_bits rest) ++ map as_level before
bits_found rest bs said before after none is e =
    let levels : map as_level said ≡ map (λ b. gives b) bs = ap (map as_level) is ∙ given_levels bs in
    rw (no_bits rest none) (sym (ap (map as_level) e ∙ map-append as_level said after ∙ ap (λ (t : List Step). t ++ map as_level after) levels))

pub bitmap_found : (rest : Stretch) (before after : Selection) (values : Bor (List ℕ)) (offset n : ℕ) → size_of rest ≡ 0 → GivesSelected before (Some (Ok (P.Bitmap values offset n))) after
    → (map gives (bits_from values.now offset n) ++ map as_level after.steps ≡ map gives (stretch_bits rest) ++ map as_level before.steps) × (n + after.left ≡ size_of rest + before.left) × (0 < n)
bitmap_found rest before after values offset n none g = (bits_found rest (bits_from values.now offset n) g.0.0 before.steps after.steps none g.0.1.3 g.0.2, omega (arith, none, g.1), g.0.1.0)

pub copies_found : (rest : Stretch) (before after : Selection) (b : Bool) (n : ℕ) → size_of rest ≡ 0 → GivesSelected before (Some (Ok (P.Repeated b n))) after
    → (map gives (replicate n b) ++ map as_level after.steps ≡ map gives (stretch_bits rest) ++ map as_level before.steps) × (n + after.left ≡ size_of rest + before.left) × (0 < n)
copies_found rest before after b n none g = (bits_found rest (replicate n b) g.0.0 before.steps after.steps none g.0.1.1 g.0.2, omega (arith, none, g.1), g.0.1.0)
