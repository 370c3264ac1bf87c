-- A section behind its length.
use Rattle.std.proofs.Common.{◌≡◌, ℕ, zero, suc, ◌≤◌, ◌<◌, List, [], ◌++◌, length, take, drop, refl, sym, ap, ◌∙◌, arith, length-append}
use Rattle.std.proofs.lemmas.List.{take-append-drop, length-take-le, take_at, drop_at}
use Rattle.pq_files.proofs.Unique.{append_same}
use Rattle.pq_files.specs.Levels.{IsBehindLength}
use Rattle.pq_numbers.specs.Texts.{number_of}

pub no_section : (max : ℕ) (bytes : List ℕ) → max ≡ 0 → IsBehindLength max bytes [] bytes
no_section zero bytes e = (refl, refl)
no_section (suc max) bytes e = absurd (omega (arith, e))

pub section_at : (max n : ℕ) (bytes : List ℕ) → (max ≡ 0 → ⊥) → 4 ≤ length bytes → n ≡ number_of (take 4 bytes) → n ≤ length (drop 4 bytes) → IsBehindLength max bytes (take n (drop 4 bytes)) (drop n (drop 4 bytes))
section_at zero n bytes ne four is le = absurd (ne refl)
section_at (suc max) n bytes ne four is le = (
  take 4 bytes,
  length-take-le 4 bytes four,
  sym is ∙ sym (length-take-le n (drop 4 bytes) le),
  sym (take-append-drop 4 bytes) ∙ ap (λ (t : List ℕ). take 4 bytes ++ t) (sym (take-append-drop n (drop 4 bytes))),
)

pub no_length : (max : ℕ) (bytes section rest : List ℕ) → (max ≡ 0 → ⊥) → length bytes < 4 → IsBehindLength max bytes section rest → ⊥
no_length zero bytes section rest ne short h = ne refl
no_length (suc max) bytes section rest ne short h = absurd (omega (arith, ap length h.3, length-append h.0 (section ++ rest), h.1))

pub no_room : (max n : ℕ) (bytes section rest : List ℕ) → (max ≡ 0 → ⊥) → n ≡ number_of (take 4 bytes) → length (drop 4 bytes) < n → IsBehindLength max bytes section rest → ⊥
no_room zero n bytes section rest ne is short h = ne refl
no_room (suc max) n bytes section rest ne is short h =
    let front : take 4 bytes ≡ h.0 = ap (λ (t : List ℕ). take 4 t) h.3 ∙ take_at h.0 (section ++ rest) 4 h.1 in
    let behind : drop 4 bytes ≡ section ++ rest = ap (λ (t : List ℕ). drop 4 t) h.3 ∙ drop_at h.0 (section ++ rest) 4 h.1 in
    absurd (omega (arith, is ∙ ap number_of front ∙ h.2, ap length behind, length-append section rest))

-- what lies in front is one section
pub behind_same : (max : ℕ) (bytes a b x y : List ℕ) → IsBehindLength max bytes a x → IsBehindLength max bytes b y → (a ≡ b) × (x ≡ y)
behind_same zero bytes a b x y g h = (g.0 ∙ sym h.0, sym g.1 ∙ h.1)
behind_same (suc max) bytes a b x y g h =
    let heads = append_same g.0 h.0 (a ++ x) (b ++ y) (g.1 ∙ sym h.1) (sym g.3 ∙ h.3) in
    append_same a b x y (sym g.2 ∙ ap number_of heads.0 ∙ h.2) heads.1
