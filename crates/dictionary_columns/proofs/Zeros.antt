-- Pages of zeros in the place of others, with the same levels.
use Rattle.std.proofs.Common.{ℕ, zero, suc, Option, List, [], ◌∷◌, ◌++◌, map, refl, sym, ◌∙◌, append-nil}
use Rattle.std.specs.Prelude.{pos}
use Rattle.std.proofs.lemmas.List.{length-map}
use Rattle.shredding.specs.Shred.{Triple}
use Rattle.shredding.specs.Slot.{Value, number}
use Rattle.pq_files.specs.Chunk.{IsPageIn, Page, RawPage}
use Rattle.pq_files.specs.Levels.{IsBehindLength}
use Rattle.pq_files.specs.Page.{HasEncoding, IsCounted, IsSpelled, IsSplit, LevelsAreRuns, Sections, plain, values_in}
use Rattle.pq_files.specs.Plain.{IsOne, InARow, IsPlain}
use Rattle.pq_numbers.specs.Texts.{Begins}
use Rattle.pq_tree.specs.Headers.{Header, data_page, data_page_2, dictionary_page}
use Rattle.pq_tree.specs.Physical.{Physical, int32, int64}
use Rattle.pq_tree.specs.Tree.{Leaf, max_definition, max_repetition}
use Rattle.dictionary_columns.specs.Keys.{with_value}
use Rattle.dictionary_columns.proofs.Looked.{beside}
use Rattle.dictionary_columns.proofs.Triples.{begins-with, defs-with, present-with, reps-with, rows-with, values-with}

abbrev pub zero_for : Value → Value
zero_for v = number (pos 0)

-- numbers of a physical type in whose plain spelling zero stands
pub record HasZero (p : Physical) : Type 0 where
  pub text : List ℕ
  pub one : IsOne p text (number (pos 0))
  pub row : (s : List ℕ) (vs : List Value) → InARow p s vs → IsPlain p s vs

pub zero_32 : HasZero int32
zero_32 = record { text = 0 ∷ 0 ∷ 0 ∷ 0 ∷ []; one = (refl, refl); row = λ s vs r. r }

pub zero_64 : HasZero int64
zero_64 = record { text = 0 ∷ 0 ∷ 0 ∷ 0 ∷ 0 ∷ 0 ∷ 0 ∷ 0 ∷ []; one = (refl, refl); row = λ s vs r. r }

zeros : (p : Physical) (z : HasZero p) (vs : List Value) → (text : List ℕ) × InARow p text (map zero_for vs)
zeros p z [] = ([], refl)
zeros p z (v ∷ vs) = let r = zeros p z vs in (z.text ++ r.0, (z.text, r.0, z.one, r.1, refl))

-- ---- another section of values
behind-length : (max : ℕ) (bytes section rest other : List ℕ) → IsBehindLength max bytes section rest → (text : List ℕ) × IsBehindLength max text section other
behind-length zero bytes section rest other b = (other, (b.0, refl))
behind-length (suc max) bytes section rest other b = (b.0 ++ (section ++ other), (b.0, b.1, b.2, refl))

abbrev plainly : Header → Header
plainly (data_page h) = data_page (record { num_values = h.num_values; encoding = pos 0; definition_encoding = h.definition_encoding; repetition_encoding = h.repetition_encoding })
plainly (data_page_2 h) = data_page_2 (record { num_values = h.num_values; num_rows = h.num_rows; encoding = pos 0; definition_length = h.definition_length; repetition_length = h.repetition_length })
plainly (dictionary_page h) = dictionary_page h

abbrev with_values : Sections → List ℕ → Sections
with_values s text = record { repetition = s.repetition; definition = s.definition; values = text }

resplit : (l : Leaf) (p : Physical) (h : Header) (body : List ℕ) (s : Sections) (text : List ℕ) → IsSplit l h body s → (own : List ℕ) × IsSplit (beside l p) (plainly h) own (with_values s text)
resplit l p (data_page h) body s text x =
    let d = behind-length (max_definition l) x.behind s.definition s.values text x.definition in
    let r = behind-length (max_repetition l) body s.repetition x.behind d.0 x.repetition in
    (r.0, record { behind = d.0; repetition = r.1; definition = d.1 })
resplit l p (data_page_2 h) body s text x = (s.repetition ++ (s.definition ++ text), record { repetition = x.repetition; definition = x.definition; parts = refl })
resplit l p (dictionary_page h) body s text x = absurd x

runs-plain : (l : Leaf) (p : Physical) (h : Header) → LevelsAreRuns l h → LevelsAreRuns (beside l p) (plainly h)
runs-plain l p (data_page h) x = x
runs-plain l p (data_page_2 h) x = x
runs-plain l p (dictionary_page h) x = x

has-plain : (l : Leaf) (h : Header) (body : List ℕ) (s : Sections) → IsSplit l h body s → HasEncoding (plainly h) plain
has-plain l (data_page h) body s x = refl
has-plain l (data_page_2 h) body s x = refl
has-plain l (dictionary_page h) body s x = absurd x

counted-plain : (h : Header) (ts : List Triple) → IsCounted h ts → IsCounted (plainly h) (map (with_value zero_for) ts)
counted-plain (data_page h) ts c = c ∙ sym (length-map ts (with_value zero_for))
counted-plain (data_page_2 h) ts c = (c.0 ∙ sym (length-map ts (with_value zero_for)), c.1 ∙ sym (rows-with zero_for ts))
counted-plain (dictionary_page h) ts c = c

-- the page with zeros as its values
pub record HasZeros (l : Leaf) (p : Physical) (es : Option (List Value)) (raw : RawPage) (q : Page) : Type 0 where
  pub own : RawPage
  pub is : IsPageIn (beside l p) es own (record { header = own.header; triples = map (with_value zero_for) q.triples })

pub page-of-zeros : (l : Leaf) (p : Physical) (es fs : Option (List Value)) (raw : RawPage) (q : Page) → HasZero p → IsPageIn l fs raw q → HasZeros l p es raw q
page-of-zeros l p es fs raw q z is =
    let i = is.is in
    let h = raw.header in
    let ts = q.triples in
    let text = zeros p z (values_in ts) in
    let split = resplit l p h raw.body i.sections text.0 i.split in
    let spelled : Begins (IsSpelled plain (beside l p) es) text.0 (values_in (map (with_value zero_for) ts)) = record { text = text.0; rest = []; parts = sym (append-nil text.0); spells = rw (values-with zero_for ts) (z.row text.0 (map zero_for (values_in ts)) text.1) } in
    record {
      own = record { header = plainly h; body = split.0 };
      is = record {
        header = refl;
        is = record {
          sections = with_values i.sections text.0;
          split = split.1;
          runs = runs-plain l p h i.runs;
          repetitions = rw (reps-with zero_for ts) i.repetitions;
          definitions = rw (defs-with zero_for ts) i.definitions;
          present = present-with zero_for (max_definition l) ts i.present;
          encoding = plain;
          has_encoding = has-plain l h raw.body i.sections i.split;
          values = spelled;
          counted = counted-plain h ts i.counted;
          begins_row = begins-with zero_for ts i.begins_row;
        };
      };
    }
