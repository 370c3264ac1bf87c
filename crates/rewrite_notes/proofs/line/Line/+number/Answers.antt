use Rattle.std.proofs.Common.{◌≡◌, ◌+◌, ◌/◌, ◌%◌, ◌≤◌, ◌^◌, ◌<◌, List, ℕ, [], ◌∷◌, ◌++◌, sym, ap, ◌∙◌, append_assoc, arith}
use Rattle.std.specs.Prelude.{decimal}
use Rattle.rewrite_notes.proofs.Numbers.{decimal_more}
use Rattle.rewrite_notes.specs.Line.{line_bytes}
use Rattle.rewrite_notes.proofs.line.Line.+number.Goals as goal

-- the last digit after the digits before it
last_put : (n : ℕ) (a b d : List ℕ) → 10 ≤ n → n < 2 ^ 64 → b ≡ a ++ decimal (n / 10) → d ≡ b ++ ((48 + n % 10) ∷ []) → d ≡ a ++ decimal n
last_put n a b d h k e f = f ∙ ap (λ l. l ++ ((48 + n % 10) ∷ [])) e ∙ append_assoc a (decimal (n / 10)) ((48 + n % 10) ∷ []) ∙ ap (λ l. a ++ l) (sym (decimal_more n h k))

pub returns-else-number-lt10-clause-bytes : goal.returns-else-number-lt10-clause-bytes
returns-else-number-lt10-clause-bytes t c = last_put c.args.number (line_bytes c.args.self.now) (line_bytes c.number.new.self) _ (omega arith) (omega arith) c.number.ensures.bytes c.byte-else-number-lt10.ensures.bytes
