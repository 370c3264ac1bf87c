-- A page's header, and the page behind it, have one reading.
use Rattle.std.proofs.Common.{◌≡◌, ℕ, List, ◌++◌, length, sym, ap, subst, ◌∙◌}
use Rattle.std.proofs.lemmas.List.{append_assoc}
use Rattle.pq_thrift.specs.Value.{Value}
use Rattle.pq_thrift.proofs.OneReading.{same_reading}
use Rattle.pq_metadata.specs.Header.{SpellsHeader}
use Rattle.pq_metadata.proofs.HeaderOnce.{spelled_header_same}
use Rattle.pq_files.specs.Chunk.{RawPage, IsPageText}
use Rattle.pq_files.proofs.Unique.{append_same}

pub record SamePage (p q : RawPage) (s t x y : List ℕ) : Type 0 where
  pub pages : p ≡ q
  pub texts : s ≡ t
  pub rests : x ≡ y

raw_same : (p q : RawPage) → p.header ≡ q.header → p.body ≡ q.body → p ≡ q
raw_same p q h b = λ i. record { header = h i; body = b i }

pub page_text_same : (s t x y : List ℕ) (p q : RawPage) → IsPageText s p → IsPageText t q → s ++ x ≡ t ++ y → SamePage p q s t x y
page_text_same s t x y p q a b e =
    let whole : a.head ++ (p.body ++ x) ≡ b.head ++ (q.body ++ y) = sym (append_assoc a.head p.body x) ∙ ap (λ (z : List ℕ). z ++ x) (sym a.parts) ∙ e ∙ ap (λ (z : List ℕ). z ++ y) b.parts ∙ append_assoc b.head q.body y in
    let read = same_reading a.head b.head (p.body ++ x) (q.body ++ y) a.value b.value a.spells b.spells whole in
    let said = spelled_header_same b.value (record { header = p.header; size = length p.body }) (record { header = q.header; size = length q.body }) (subst (λ (v : Value). SpellsHeader v (record { header = p.header; size = length p.body })) read.1 a.is_header) b.is_header in
    let heads = append_same a.head b.head (p.body ++ x) (q.body ++ y) (ap length read.0) whole in
    let bodies = append_same p.body q.body x y said.size heads.1 in
    record {
      pages = raw_same p q said.header bodies.0;
      texts = a.parts ∙ ap (λ (z : List ℕ). z ++ p.body) read.0 ∙ ap (λ (z : List ℕ). b.head ++ z) bodies.0 ∙ sym b.parts;
      rests = bodies.1;
    }
