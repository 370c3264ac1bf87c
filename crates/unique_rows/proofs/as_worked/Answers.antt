use Rattle.std.proofs.Common.{◌<◌, inl, inr, refl, lit≤, true≢false, sym, arith}
use Rattle.shredding.specs.Shred.{shred}
use Rattle.unique_rows.specs.Valid.{PassOffsets}
use Rattle.unique_rows.specs.Worked.{AreWorked, lists, some_rows}
use Rattle.unique_rows.proofs.as_worked.Goals as goal

-- three items
few_items : 2147483647 < 3 → ⊥
few_items h = omega (arith, h)

few : PassOffsets lists some_rows → ⊥
unfolding shred
few (inl (inl (inl h))) = few_items h
few (inl (inl (inr h))) = h
few (inl (inr h)) = h
few (inr h) = h

examples : AreWorked
unfolding few shred
examples =
    record {
      lists_are =
          record {
            some = λ e. cc e;
            written = record { structs = refl; decimals = refl; times = refl; types = refl; type_nesting = lit≤ tt; tree_nesting = lit≤ tt };
            rows = (refl, tt);
            served = refl;
          };
      pairs = refl;
      few = few;
      none = λ s. s.some refl;
      keys = λ s. true≢false (sym s.served);
      empty = λ s. true≢false s.written.structs;
    }

pub returns : goal.returns
returns c = examples
