-- The values of a page that is opened.
use Rattle.std.proofs.Common.{inl, inr, ℕ, ◌≤◌, Bool, Option, List, refl, arith, subst}
use Rattle.std.specs.Prelude.{Vec}
use Rattle.std.specs.Global.{Global}
use Rattle.columns_base.specs.declared.error.Error.{Error}
use Rattle.pq_files.specs.Chunk.{RawPage}
use Rattle.pq_files.specs.Page.{Encoding, HasEncoding}
use Rattle.pq_pages.specs.Outcomes.{Levels}
use Rattle.read_walk.specs.Pairs.{Item}
use Rattle.read_column.specs.Deltas.{present_in}
use Rattle.read_column.specs.Dictionary.{HasValues, Means}
use Rattle.read_column.specs.Laid.{AreLaid, AreNotLaid, laid_in}
use Rattle.read_column.specs.Opened.{ArePairsIn, IsOpenPage, encoding_by, sections_in}
use Rattle.read_column.specs.Reading.{CannotLay, HasItems}
use Rattle.read_column.specs.declared.page.OpenPage.{OpenPage}
use Rattle.read_column.proofs.Long.{front-levels}
use Rattle.read_column.proofs.Present.{readable-pairs}

pub items-laid : (own : Bool) (d : Means) (p : RawPage) (levels : Levels) (x : OpenPage) (items : List Item) (laid : Option (Vec ℕ Global)) → IsOpenPage own d.deltas p levels x → ArePairsIn x items → AreLaid d x items laid → HasItems own d p levels items (laid_in x.values.now laid)
items-laid own d p levels x items laid o are h = record {
  encoding = encoding_by x.encoding;
  sections = sections_in x;
  repetition = x.max_repetition;
  definition = x.max_definition;
  n = x.count;
  opened = o;
  are = are;
  bytes = subst (λ (n : ℕ). HasValues d (encoding_by x.encoding) n (present_in x.max_definition items) x.values.now (laid_in x.values.now laid)) o.count h;
}

pub not-laid : (own : Bool) (d : Means) (p : RawPage) (levels : Levels) (x : OpenPage) (items : List Item) (e : Error) → IsOpenPage own d.deltas p levels x → ArePairsIn x items → AreNotLaid d x items e → CannotLay own d p levels e
not-laid own d p levels x items e o are (inl s3) = inl (s3.0, s3.1, subst (λ (f : Encoding). HasEncoding p.header f) s3.2 o.encoding)
not-laid own d p levels x items e o are (inr y) = inr (record {
  encoding = encoding_by x.encoding;
  deltas = y.0;
  items = items;
  section = x.values.now;
  has = record { sections = sections_in x; repetition = x.max_repetition; definition = x.max_definition; n = x.count; opened = o; are = are; bytes = refl };
  why = y.1;
})

-- no more pairs have a value than there are
pub few-present : (x : OpenPage) (items : List Item) → ArePairsIn x items → present_in x.max_definition items ≤ x.count
few-present x items are =
    let r = readable-pairs x.max_definition items in
    let front = front-levels (sections_in x) x.max_repetition x.max_definition x.count items r.0 r.1 are r.2 in
    omega (arith, r.3, front.few)
