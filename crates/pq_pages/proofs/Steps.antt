-- One page of a chunk, and then the others.
use Rattle.std.proofs.Common.{◌≡◌, ℕ, zero, suc, ◌<◌, List, [], ◌∷◌, length, Option, Some, None, Ok, Err, Result, refl, ap, ◌∙◌, arith}
use Rattle.columns_base.specs.declared.error.Error.{Error}
use Rattle.pq_files.specs.Chunk.{RawPage}
use Rattle.pq_pages.specs.declared.place.Place.{Place}
use Rattle.pq_pages.specs.Outcomes.{Levels, Outcome, fails}
use Rattle.pq_pages.specs.Reading.{Further, fault_in, next_page, outcome_in, pages_from, pages_in, place_behind, left_behind, placed, read_on}
use Rattle.pq_pages.proofs.NextFound.{next_shorter}

abbrev Next : Type 0
Next = Result (RawPage × List ℕ) Error

-- ---- any number of turns above the number of bytes is enough

abbrev AreSame : Further → Further → ℕ → Type 0
AreSame f g n = (place : Place) (left : ℕ) (bytes : List ℕ) → length bytes < n → f place left bytes ≡ g place left bytes

placed_same : (f g : Further) (levels : Levels) (place : Place) (left : ℕ) (p : RawPage) (behind : List ℕ) (n : ℕ) (o : Option Error) → AreSame f g n → length behind < n → placed f levels place left p behind o ≡ placed g levels place left p behind o
placed_same f g levels place left p behind n (Some e) same h = refl
placed_same f g levels place left p behind n None same h = ap (λ (os : List Outcome). outcome_in levels p.header p.body ∷ os) (same (place_behind place p.header) (left_behind left p.header) behind h)

read_same : (f g : Further) (max : ℕ) (levels : Levels) (place : Place) (left : ℕ) (bytes : List ℕ) (r : Next) → AreSame f g (length bytes) → next_page max bytes ≡ r → read_on f levels place left r ≡ read_on g levels place left r
read_same f g max levels place left bytes (Err e) same is = refl
read_same f g max levels place left bytes (Ok x) same is = placed_same f g levels place left x.0 x.1 (length bytes) (fault_in place left x.0.header) same (next_shorter max bytes x.0 x.1 is)

enough : (t u max : ℕ) (levels : Levels) (place : Place) (left : ℕ) (bytes : List ℕ) → length bytes < t → length bytes < u → pages_from t max levels place left bytes ≡ pages_from u max levels place left bytes
unfolding pages_from
enough t u max levels place zero bytes a b = refl
enough zero u max levels place (suc left) bytes a b = absurd (omega (arith, a))
enough (suc t) zero max levels place (suc left) bytes a b = absurd (omega (arith, b))
enough (suc t) (suc u) max levels place (suc left) bytes a b =
    read_same (pages_from t max levels) (pages_from u max levels) max levels place (suc left) bytes (next_page max bytes) (λ other k more h. enough t u max levels other k more (omega (arith, a, h)) (omega (arith, b, h))) refl

-- ---- one step

opened : (max : ℕ) (levels : Levels) (place : Place) (left : ℕ) (bytes : List ℕ) → 0 < left → pages_in max levels place left bytes ≡ read_on (pages_from (length bytes) max levels) levels place left (next_page max bytes)
unfolding pages_from
opened max levels place zero bytes h = absurd (omega (arith, h))
opened max levels place (suc left) bytes h = refl

pub stepped : (max : ℕ) (levels : Levels) (place : Place) (left : ℕ) (bytes : List ℕ) (p : RawPage) (behind : List ℕ) → 0 < left → next_page max bytes ≡ Ok (p, behind) → fault_in place left p.header ≡ None
    → pages_in max levels place left bytes ≡ outcome_in levels p.header p.body ∷ pages_in max levels (place_behind place p.header) (left_behind left p.header) behind
stepped max levels place left bytes p behind some is may =
    opened max levels place left bytes some
    ∙ ap (read_on (pages_from (length bytes) max levels) levels place left) is
    ∙ ap (placed (pages_from (length bytes) max levels) levels place left p behind) may
    ∙ ap (λ (os : List Outcome). outcome_in levels p.header p.body ∷ os)
    (enough (length bytes) (suc (length behind)) max levels (place_behind place p.header) (left_behind left p.header) behind (next_shorter max bytes p behind is) (omega arith))

pub not_next : (max : ℕ) (levels : Levels) (place : Place) (left : ℕ) (bytes : List ℕ) (e : Error) → 0 < left → next_page max bytes ≡ Err e → pages_in max levels place left bytes ≡ fails e ∷ []
not_next max levels place left bytes e some is = opened max levels place left bytes some ∙ ap (read_on (pages_from (length bytes) max levels) levels place left) is

pub not_placed : (max : ℕ) (levels : Levels) (place : Place) (left : ℕ) (bytes : List ℕ) (p : RawPage) (behind : List ℕ) (e : Error) → 0 < left → next_page max bytes ≡ Ok (p, behind) → fault_in place left p.header ≡ Some e → pages_in max levels place left bytes ≡ fails e ∷ []
not_placed max levels place left bytes p behind e some is may =
    opened max levels place left bytes some
    ∙ ap (read_on (pages_from (length bytes) max levels) levels place left) is
    ∙ ap (placed (pages_from (length bytes) max levels) levels place left p behind) may

pub at_end : (max : ℕ) (levels : Levels) (place : Place) (bytes : List ℕ) → pages_in max levels place 0 bytes ≡ []
unfolding pages_from
at_end max levels place bytes = refl
