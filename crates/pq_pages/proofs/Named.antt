-- Encodings by their numbers.
use Rattle.std.proofs.Common.{◌≡◌, ℕ, zero, suc, ℤ, pos, negsuc, Bool, true, false, cond, not, nat_eq, nat_le, nat_lt, Option, Some, None, refl, sym, ap, arith}
use Rattle.std.specs.Prelude.{◌||◌, ◌&&◌}
use Rattle.std.proofs.Math.Dec.{eqb-suc-zero}
use Rattle.std.proofs.lemmas.Bool.{lt-leb}
use Rattle.columns_base.specs.declared.error.Error.{Error}
use Rattle.columns_base.specs.declared.error.Error.TheVariants.{OutOfSpec, NotYetImplemented}
use Rattle.columns_base.specs.declared.error.S.TheVariants.{S3}
use Rattle.columns_base.specs.declared.error.N.TheVariants.{N4}
use Rattle.pq_tree.specs.declared.types.DataPageHeader.TheVariants.{V1, V2}
use Rattle.pq_tree.specs.declared.types.Encoding.{Encoding}
use Rattle.pq_tree.specs.declared.types.Encoding.TheVariants as E
use Rattle.pq_tree.specs.declared.types.TypedPageHeader.{TypedPageHeader}
use Rattle.pq_tree.specs.declared.types.TypedPageHeader.TheVariants.{Data, Dictionary}
use Rattle.pq_tree.specs.Views.{typed_view, natural_part}
use Rattle.pq_pages.specs.declared.place.Place.{Place}
use Rattle.pq_pages.specs.DataPages.{number_in, is_named, IsNamed, EncodingsAreNumbered}
use Rattle.pq_pages.specs.Reading.{data_fault, fault_in, is_indexed}

neither : (a b c : Bool) → (a || (b && c)) ≡ true → a ≡ false → c ≡ false → ⊥
neither true b c e x y = cc x
neither false true c e x y = cc (e, y)
neither false false c e x y = cc e

past : (n : ℕ) → is_named (pos (suc (suc (suc (suc (suc (suc (suc (suc (suc n)))))))))) ≡ true → ⊥
past n e =
    let k : ℕ = suc (suc (suc (suc (suc (suc (suc (suc n))))))) in
    neither (nat_eq (suc k) 0) (nat_le 2 (suc k)) (nat_le (suc k) 8) e (eqb-suc-zero k) (lt-leb (suc k) 8 (omega arith))

pub numbered : (z : ℤ) → is_named z ≡ true → (e : Encoding) × (number_in e ≡ z)
numbered (pos zero) e = (E.Plain, refl)
numbered (pos (suc zero)) e = cc e
numbered (pos (suc (suc zero))) e = (E.PlainDictionary, refl)
numbered (pos (suc (suc (suc zero)))) e = (E.Rle, refl)
numbered (pos (suc (suc (suc (suc zero))))) e = (E.BitPacked, refl)
numbered (pos (suc (suc (suc (suc (suc zero)))))) e = (E.DeltaBinaryPacked, refl)
numbered (pos (suc (suc (suc (suc (suc (suc zero))))))) e = (E.DeltaLengthByteArray, refl)
numbered (pos (suc (suc (suc (suc (suc (suc (suc zero)))))))) e = (E.DeltaByteArray, refl)
numbered (pos (suc (suc (suc (suc (suc (suc (suc (suc zero))))))))) e = (E.RleDictionary, refl)
numbered (pos (suc (suc (suc (suc (suc (suc (suc (suc (suc n)))))))))) e = absurd (past n e)
numbered (negsuc n) e = cc e

named_again : (z : ℤ) (e : Encoding) → number_in e ≡ z → is_named z ≡ true
named_again z E.Plain e = ap is_named (sym e)
named_again z E.PlainDictionary e = ap is_named (sym e)
named_again z E.Rle e = ap is_named (sym e)
named_again z E.BitPacked e = ap is_named (sym e)
named_again z E.DeltaBinaryPacked e = ap is_named (sym e)
named_again z E.DeltaLengthByteArray e = ap is_named (sym e)
named_again z E.DeltaByteArray e = ap is_named (sym e)
named_again z E.RleDictionary e = ap is_named (sym e)

pub encodings_are_numbered : EncodingsAreNumbered
encodings_are_numbered z = (numbered z, λ x. named_again z x.0 x.1)

by_choices : (a b : Bool) → cond {A = Option Error} a (Some (OutOfSpec S3)) (cond b None (Some (NotYetImplemented N4))) ≡ None → (a ≡ false) × (b ≡ true)
by_choices true b e = cc e
by_choices false true e = (refl, refl)
by_choices false false e = cc e

pub data_passes : (place : Place) (left n : ℕ) (z : ℤ) → data_fault place left n z ≡ None → ((nat_lt left n || (is_indexed z && not place.has_dictionary)) ≡ false) × (is_named z ≡ true)
data_passes place left n z e = by_choices (nat_lt left n || (is_indexed z && not place.has_dictionary)) (is_named z) e

pub named : (place : Place) (left : ℕ) (h : TypedPageHeader) → fault_in place left (typed_view h) ≡ None → IsNamed h
named place left (Data (V1 h)) e = (data_passes place left (natural_part h.num_values) h.encoding e).1
named place left (Data (V2 h)) e = (data_passes place left (natural_part h.num_values) h.encoding e).1
named place left (Dictionary h) e = tt
