-- Where a reason stands, nothing is carried: laws of the reasons.
use Rattle.std.specs.Prelude.{ℕ, List, Option}
use Rattle.pq_numbers.specs.Texts.{Begins}
use Rattle.shredding.specs.Shred.{Triple}
use Rattle.shredding.specs.Slot.{Value}
use Rattle.pq_metadata.specs.Footer.{Footer}
use Rattle.pq_metadata.specs.Frame.{IsFramed}
use Rattle.pq_tree.specs.Tree.{Leaf}
use Rattle.pq_metadata.specs.Metadata.{IsFooterText}
use Rattle.pq_files.specs.Carried.{IsNotCarried}
use Rattle.pq_files.specs.Chunk.{RawPage}
use Rattle.pq_files.specs.Page.{IsPage}
use Rattle.pq_files.specs.PageReasons.{N4Page, S4, S6, HasPairs}
use Rattle.pq_files.specs.Reasons.{S1, S2, N1, N3}
use Rattle.pq_files.specs.RowReasons.{CountsOtherwise}

-- of what the footer of the bytes says, the place of which is known
abbrev pub Excludes : (ℕ → Footer → Type 0) → Type 0
Excludes R = (bytes : List ℕ) (place : ℕ) (footer : List ℕ) (f : Footer) → IsFramed bytes place footer → Begins IsFooterText footer f → R place f → IsNotCarried bytes

-- the page holds no triples
abbrev pub IsNoPage : Leaf → Option (List Value) → RawPage → Type 0
IsNoPage l entries p = (ts : List Triple) → IsPage l entries p.header p.body ts → ⊥

pub record ReasonsExclude : Type 0 where
  pub s1 : (bytes : List ℕ) → S1 bytes → IsNotCarried bytes
  pub s2 : Excludes S2
  pub n1 : Excludes (λ place f. N1 f)
  pub n3 : Excludes (λ place f. N3 f)
  pub n4 : (l : Leaf) (entries : Option (List Value)) (p : RawPage) → N4Page l p → IsNoPage l entries p
  pub s4 : (l : Leaf) (entries : Option (List Value)) (p : RawPage) → S4 l p → IsNoPage l entries p
  pub s6 : (l : Leaf) (entries : Option (List Value)) (p : RawPage) → S6 l entries p → IsNoPage l entries p
  -- a part of S9
  pub counts : (l : Leaf) (entries : Option (List Value)) (p : RawPage) (pairs : List Triple) → HasPairs l p pairs → CountsOtherwise p.header pairs → IsNoPage l entries p
