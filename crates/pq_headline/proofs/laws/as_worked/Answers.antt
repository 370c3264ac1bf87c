use Rattle.std.proofs.Common.{◌≡◌, List, [], ◌∷◌, ◌++◌, length, length-append, refl, ap, inl, inr, arith}
use Rattle.pq_pages.specs.Outcomes.{Outcome, gives_dictionary}
use Rattle.pq_files.specs.FirstFile.{triples, way}
use Rattle.shredding.specs.Shred.{shred}
use Rattle.pq_headline.specs.FieldReasons.{items_in}
use Rattle.pq_headline.specs.Worked.{ColumnsAreWorked, EncodingsAreChosen, PiecesAreWorked, LimitsAreWorked, PagesAreWorked, page_in}
use Rattle.pq_headline.proofs.laws.as_worked.Goals as goal

columns : ColumnsAreWorked
columns = record { nested = refl; of_map = refl; flat = refl; beneath = refl }

encodings : EncodingsAreChosen
encodings = record { by_default = refl; flat_deltas = refl; nested_number = refl; keys = refl }

pieces : PiecesAreWorked
pieces = record { twos = refl; wholes = refl; empty = refl }

three : items_in way 1 triples ≡ 3
unfolding shred
three = refl

limits : LimitsAreWorked
unfolding shred
limits =
    record {
      items = refl;
      outer = refl;
      inner = refl;
      first = refl;
      later = refl;
      last = refl;
      passes = inl (omega (arith, three));
      within = λ h. elim h [ inl x ↦ omega (arith, three, x) | inr x ↦ x ];
      many_keys = omega arith;
      enough_keys = λ h. omega (arith, h);
    }

nothing_before : (before rest : List Outcome) (o p : Outcome) → p ∷ [] ≡ before ++ o ∷ rest → before ≡ []
nothing_before [] rest o p e = refl
nothing_before (q ∷ before) rest o p e = absurd (omega (arith, ap length e, length-append before (o ∷ rest)))

pages : PagesAreWorked
pages =
    record {
      behind = record { before = page_in 0 ∷ []; outcome = gives_dictionary 1 []; rest = []; parts = refl; misplaced = inl ((λ e. cc e), tt) };
      none = record { before = []; outcome = page_in 8; rest = []; parts = refl; misplaced = inr (refl, λ h. h) };
      in_front = λ h. elim h.misplaced [ inl x ↦ x.0 (nothing_before h.before h.rest h.outcome (gives_dictionary 1 []) h.parts) | inr x ↦ x.1 tt ];
      plain_keys = inl (refl, tt, λ e. cc e);
      nested_deltas = inr (refl, inl refl);
      plain_numbers = λ h. elim h [ inl x ↦ cc x.0 | inr x ↦ cc x.0 ];
    }

pub returns : goal.returns
returns c = record { columns = columns; encodings = encodings; pieces = pieces; claims = refl; limits = limits; pages = pages }
