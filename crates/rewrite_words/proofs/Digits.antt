-- A number whose digits are read one after another.
use Rattle.std.proofs.Common.{◌≡◌, ℕ, suc, ◌+◌, ◌-◌, ◌*◌, ◌^◌, ◌<◌, ◌≤◌, Bool, true, false, cond, ◌&&◌, List, Some, None, nat_lt, nat_le, length, get_or, drop, refl, ◌∙◌, ap, arith, add-one}
use Rattle.std.proofs.Math.Nat.{pow-suc, pow-le-pow_right}
use Rattle.std.proofs.Math.Seq.{drop-cons, drop-length}
use Rattle.std.proofs.lemmas.Bool.Decides.{nat_tests}
use Rattle.std.specs.Char.{is_ascii_digit}
use Rattle.std.specs.Str.{all_ascii_digits}
use Rattle.rewrite_words.specs.Numbers.{value_of_digits, number_of}

-- The first i bytes are digits that write the number.
pub record HasRead (text : List ℕ) (number i : ℕ) : Type 0 where
  pub small : number < 10 ^ i
  pub digits : all_ascii_digits text ≡ all_ascii_digits (drop i text)
  pub value : value_of_digits text ≡ number * 10 ^ length (drop i text) + value_of_digits (drop i text)

pub begins : (text : List ℕ) → HasRead text 0 0
begins text = record { small = omega arith; digits = refl; value = omega arith }

-- a number of at most 18 digits has room for one more
pub has_room : (text : List ℕ) (number i : ℕ) → i < 19 → HasRead text number i → number < 10 ^ 18
has_room text number i h r =
    let le : i ≤ 18 = omega arith in
    let most : 10 ^ i ≤ 10 ^ 18 = pow-le-pow_right (omega arith) le in
    omega (arith, most, r.small)

moved : (n d p v : ℕ) → n * (p * 10) + (d * p + v) ≡ (n * 10 + d) * p + v
moved n d p v = omega arith

pub is_low : (c : ℕ) → is_ascii_digit c ≡ true → c - 48 < 10
is_low c h = grind (arith, nat_tests)

pub steps : (text : List ℕ) (number i : ℕ) → i < length text → is_ascii_digit (get_or text i 0) ≡ true → HasRead text number i
    → HasRead text (number * 10 + (get_or text i 0 - 48)) (i + 1)
steps text number i h d r =
    let opened = drop-cons text i 0 h in
    let low = is_low (get_or text i 0) d in
    let wider : 10 ^ suc i ≡ 10 ^ i * 10 = pow-suc 10 i in
    rw add-one
    (record {
      small = omega (arith, wider, r.small);
      digits = r.digits ∙ ap all_ascii_digits opened ∙ ap (λ b. b && all_ascii_digits (drop (suc i) text)) d;
      value = r.value ∙ ap (λ t. number * 10 ^ length t + value_of_digits t) opened
          ∙ ap (λ p. number * p + ((get_or text i 0 - 48) * 10 ^ length (drop (suc i) text) + value_of_digits (drop (suc i) text))) (pow-suc 10 (length (drop (suc i) text)))
          ∙ moved number (get_or text i 0 - 48) (10 ^ length (drop (suc i) text)) (value_of_digits (drop (suc i) text));
    })

and_false : (b : Bool) → (b && false) ≡ false
and_false true = refl
and_false false = refl

pub no_empty : (text : List ℕ) → length text ≡ 0 → number_of text ≡ None
unfolding number_of
no_empty text h =
    let none : nat_lt 0 (length text) ≡ false = rw h refl in
    rw none refl

pub no_longer : (text : List ℕ) → 19 < length text → number_of text ≡ None
unfolding number_of
no_longer text h =
    let long : nat_le (length text) 19 ≡ false = grind (arith, nat_tests) in
    rw long (rw (and_false (nat_lt 0 (length text))) refl)

no_other : (text : List ℕ) → all_ascii_digits text ≡ false → number_of text ≡ None
unfolding number_of
no_other text h = rw h (rw (and_false (nat_lt 0 (length text) && nat_le (length text) 19)) refl)

pub no_digit : (text : List ℕ) (number i : ℕ) → i < length text → is_ascii_digit (get_or text i 0) ≡ false → HasRead text number i → number_of text ≡ None
no_digit text number i h d r =
    no_other text (r.digits ∙ ap all_ascii_digits (drop-cons text i 0 h) ∙ ap (λ b. b && all_ascii_digits (drop (suc i) text)) d)

ends : (text : List ℕ) (number : ℕ) → 0 < length text → length text ≤ 19 → HasRead text number (length text)
    → number_of text ≡ cond (nat_lt number (2 ^ 63)) (Some number) None
unfolding number_of
ends text number some short r =
    let none = drop-length text in
    let first : nat_lt 0 (length text) ≡ true = grind (arith, nat_tests) in
    let second : nat_le (length text) 19 ≡ true = grind (arith, nat_tests) in
    let third : all_ascii_digits text ≡ true = r.digits ∙ ap all_ascii_digits none in
    let one : number * 1 + 0 ≡ number = omega arith in
    let value : value_of_digits text ≡ number = r.value ∙ ap (λ t. number * 10 ^ length t + value_of_digits t) none ∙ one in
    rw first (rw second (rw third (rw value refl)))

pub at_end_small : (text : List ℕ) (number : ℕ) → 0 < length text → length text ≤ 19 → HasRead text number (length text) → number < 2 ^ 63 → number_of text ≡ Some number
at_end_small text number some short r h =
    let below : nat_lt number (2 ^ 63) ≡ true = grind (arith, nat_tests) in
    ends text number some short r ∙ ap (λ b. cond b (Some number) None) below

pub at_end_large : (text : List ℕ) (number : ℕ) → 0 < length text → length text ≤ 19 → HasRead text number (length text) → 2 ^ 63 ≤ number → number_of text ≡ None
at_end_large text number some short r h =
    let above : nat_lt number (2 ^ 63) ≡ false = grind (arith, nat_tests) in
    ends text number some short r ∙ ap (λ b. cond b (Some number) None) above
