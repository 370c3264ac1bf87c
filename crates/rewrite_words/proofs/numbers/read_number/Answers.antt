use Rattle.std.proofs.Common.{◌≡◌, false, true, get_or, length, sym, ◌∙◌, arith}
use Rattle.std.proofs.lemmas.Bool.Decides.{nat_tests}
use Rattle.std.specs.Char.{is_ascii_digit}
use Rattle.rewrite_words.proofs.Digits.{no_empty, no_longer, no_digit, has_room, is_low, steps, at_end_small, at_end_large}
use Rattle.rewrite_words.proofs.numbers.read_number.Goals as goal

pub returns-then-is_empty : goal.returns-then-is_empty
returns-then-is_empty c = sym (no_empty c.args.text.now (grind (arith, nat_tests)))

pub returns-then-text-gt-MAX_DIGITS : goal.returns-then-text-gt-MAX_DIGITS
returns-then-text-gt-MAX_DIGITS c = sym (no_longer c.args.text.now (omega arith))

pub returns-then-not-is_ascii_digit : goal.returns-then-not-is_ascii_digit
returns-then-not-is_ascii_digit c =
    let other : is_ascii_digit (get_or c.args.text.now c.loop-byte.byte-index 0) ≡ false = sym c.is_ascii_digit.ensures.value ∙ c.if-not-is_ascii_digit.true in
    sym (no_digit c.args.text.now c.loop-byte.number c.loop-byte.byte-index (omega arith) other c.loop-byte.invariant)

pub overflow_mul-number : goal.overflow_mul-number
overflow_mul-number c = omega (arith, has_room c.args.text.now c.loop-byte.number c.loop-byte.byte-index (omega arith) c.loop-byte.invariant)

pub overflow_add-number : goal.overflow_add-number
overflow_add-number c =
    let digit : is_ascii_digit (get_or c.args.text.now c.loop-byte.byte-index 0) ≡ true = sym c.is_ascii_digit.ensures.value ∙ c.if-not-is_ascii_digit.false in
    omega (arith, has_room c.args.text.now c.loop-byte.number c.loop-byte.byte-index (omega arith) c.loop-byte.invariant, is_low (get_or c.args.text.now c.loop-byte.byte-index 0) digit, c.from.ensures)

pub loop-byte-preserved : goal.loop-byte-preserved
loop-byte-preserved c =
    let digit : is_ascii_digit (get_or c.args.text.now c.loop-byte.byte-index 0) ≡ true = sym c.is_ascii_digit.ensures.value ∙ c.if-not-is_ascii_digit.false in
    rw c.from.ensures (steps c.args.text.now c.loop-byte.number c.loop-byte.byte-index c.loop-byte-test.true digit c.loop-byte.invariant)

pub returns-then-number-lt-NUMBER_LIMIT : goal.returns-then-number-lt-NUMBER_LIMIT
returns-then-number-lt-NUMBER_LIMIT c =
    let all : c.loop-byte.byte-index ≡ length c.args.text.now = omega arith in
    sym (at_end_small c.args.text.now c.loop-byte.number (grind (arith, nat_tests)) (omega arith) (rw all at c.loop-byte.invariant) c.if-number-lt-NUMBER_LIMIT.true)

pub returns-else-number-lt-NUMBER_LIMIT : goal.returns-else-number-lt-NUMBER_LIMIT
returns-else-number-lt-NUMBER_LIMIT c =
    let all : c.loop-byte.byte-index ≡ length c.args.text.now = omega arith in
    sym (at_end_large c.args.text.now c.loop-byte.number (grind (arith, nat_tests)) (omega arith) (rw all at c.loop-byte.invariant) c.if-number-lt-NUMBER_LIMIT.false)
