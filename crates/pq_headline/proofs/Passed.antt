-- What passed a stage is not refused at it.
use Rattle.std.proofs.Common.{◌≡◌, ◌≢◌, ℕ, ◌≤◌, ℤ, pos, List, [], ◌∷◌, length, get_or, Option, Some, None, refl, sym, ap, subst, ◌∙◌, inl, inr, arith}
use Rattle.std.specs.Prelude.{◌<ℤ◌, All}
use Rattle.std.specs.List.{AllZip}
use Rattle.std.proofs.lemmas.Int.{ints}
use Rattle.std.proofs.lemmas.List.Elements.{All-head, All-tail}
use Rattle.pq_numbers.specs.Texts.{Begins}
use Rattle.pq_thrift.specs.declared.kind.Kind.TheVariants as kinds
use Rattle.pq_thrift.specs.Reading.{max_depth}
use Rattle.pq_thrift.specs.Value.{Value, list, struct, Values, no_values, value}
use Rattle.pq_thrift.proofs.Deep.{too_deep}
use Rattle.pq_thrift.proofs.OneReading.{same_reading}
use Rattle.pq_metadata.specs.Encrypted.{AnyValue, Any, IsEncryptedChunk, HasEncryptedChunk, SaysEncrypted}
use Rattle.pq_metadata.specs.Footer.{ChunkMeta, GroupMeta, Footer, SpellsChunk, SpellsGroup, SpellsFooter}
use Rattle.pq_metadata.specs.FooterReads.{NestsTooDeep}
use Rattle.pq_metadata.specs.Frame.{HasFrame, EndsEncrypted, footer_of, footer_place}
use Rattle.pq_metadata.specs.Ids.{get, Each}
use Rattle.pq_metadata.specs.Metadata.{IsFooterText, FooterIsEncrypted}
use Rattle.pq_tree.specs.Tree.{Leaf, columns_of, schema_nesting}
use Rattle.pq_metadata.proofs.Framed.{are_told}
use Rattle.pq_metadata.proofs.Injective.{pos_same}
use Rattle.pq_files.specs.Reasons.{AnyOf, AnyZip, IsNegative, LiesOutside, ChunkIsBad, GroupIsBad, S1, S2, N1, N2, N3, N7}
use Rattle.pq_files.proofs.CarriedOnce.{frame_same, record_same}
use Rattle.pq_pages.proofs.HeaderReads.{read_at}
use Rattle.pq_headline.specs.Opened.{ChunkIsPlaced, GroupIsPlaced}
use Rattle.pq_headline.specs.Rewrites.{HasFooterAt}
use Rattle.pq_headline.specs.Stages.{Passes3}

-- ---- a footer says of no part that it is encrypted

chunk_plain : (v : Value) (c : ChunkMeta) → SpellsChunk v c → IsEncryptedChunk v → ⊥
chunk_plain (struct fs) c h (inl e) = e h.plain_keys
chunk_plain (struct fs) c h (inr e) = e h.plain_metadata
chunk_plain _ c h e = h

chunks_plain : (vs : Values) (cs : List ChunkMeta) → Each SpellsChunk vs cs → AnyValue IsEncryptedChunk vs → ⊥
chunks_plain no_values cs h e = e
chunks_plain (value v vs) [] h e = h
chunks_plain (value v vs) (c ∷ cs) h (inl e) = chunk_plain v c h.0 e
chunks_plain (value v vs) (c ∷ cs) h (inr e) = chunks_plain vs cs h.1 e

any_in : (P : Value → Type 0) (o : Option Value) (kind : ℕ) (vs : Values) → o ≡ Some (list kind vs) → Any P o → AnyValue P vs
any_in P o kind vs e a = subst (Any P) e a

group_plain : (v : Value) (g : GroupMeta) → SpellsGroup v g → HasEncryptedChunk v → ⊥
group_plain (struct fs) g h e = chunks_plain h.columns g.chunks h.are (any_in IsEncryptedChunk (get 1 fs) h.kind h.columns h.has_columns e)
group_plain _ g h e = h

groups_plain : (vs : Values) (gs : List GroupMeta) → Each SpellsGroup vs gs → AnyValue HasEncryptedChunk vs → ⊥
groups_plain no_values gs h e = e
groups_plain (value v vs) [] h e = h
groups_plain (value v vs) (g ∷ gs) h (inl e) = group_plain v g h.0 e
groups_plain (value v vs) (g ∷ gs) h (inr e) = groups_plain vs gs h.1 e

footer_plain : (v : Value) (f : Footer) → SpellsFooter v f → SaysEncrypted v → ⊥
footer_plain (struct fs) f h (inl e) = e h.plain
footer_plain (struct fs) f h (inr e) = groups_plain h.groups f.groups h.are (any_in HasEncryptedChunk (get 4 fs) h.group_kind h.groups h.has_groups e)
footer_plain _ f h e = h

-- ---- the third stage

pub frame_of : (bytes : List ℕ) (place : ℕ) (f : Footer) → HasFooterAt bytes place f → HasFrame bytes
frame_of bytes place f h = are_told.told bytes place h.footer h.framed

said_of : (bytes : List ℕ) (place : ℕ) (f : Footer) → HasFooterAt bytes place f → Begins IsFooterText (footer_of bytes) f
said_of bytes place f h =
    let same = frame_same bytes place (footer_place bytes) h.footer (footer_of bytes) h.framed (are_told.framed bytes (frame_of bytes place f h)) in
    subst (λ (s : List ℕ). Begins IsFooterText s f) same.footers h.said

no_s1 : (bytes : List ℕ) (place : ℕ) (f : Footer) → HasFooterAt bytes place f → S1 bytes → ⊥
no_s1 bytes place f h (inl x) = x.0 (frame_of bytes place f h)
no_s1 bytes place f h (inr x) = x.1.none f (said_of bytes place f h)

two_ends : (bytes : List ℕ) → HasFrame bytes → EndsEncrypted bytes → ⊥
two_ends bytes h e =
    let k : 69 ≡ 49 = ap (λ (s : List ℕ). get_or s 3 0) (sym e ∙ h.back) in
    omega (arith, k)

not_encrypted : (said : List ℕ) (f : Footer) → Begins IsFooterText said f → FooterIsEncrypted said → ⊥
not_encrypted said f b e =
    let same = same_reading e.1.text b.text e.1.rest b.rest e.0 b.spells.0 e.1.spells b.spells.1 (sym e.1.parts ∙ b.parts) in
    footer_plain b.spells.0 f b.spells.3 (subst SaysEncrypted same.1 e.2)

no_n2 : (bytes : List ℕ) (place : ℕ) (f : Footer) → HasFooterAt bytes place f → N2 bytes → ⊥
no_n2 bytes place f h (inl e) = two_ends bytes (frame_of bytes place f h) e
no_n2 bytes place f h (inr x) = not_encrypted (footer_of bytes) f (said_of bytes place f h) x.1

not_deep : (said : List ℕ) (f : Footer) → Begins IsFooterText said f → NestsTooDeep said → ⊥
not_deep said f b d =
    let read = read_at said b.text b.rest b.spells.0 b.parts b.spells.1 b.spells.2 in
    let deep = too_deep max_depth kinds.Struct said d in
    cc (read, deep)

no_n7 : (bytes : List ℕ) (place : ℕ) (f : Footer) → HasFooterAt bytes place f → schema_nesting f.schema ≤ 128 → N7 bytes → ⊥
no_n7 bytes place f h shallow (frame, inl d) = not_deep (footer_of bytes) f (said_of bytes place f h) d
no_n7 bytes place f h shallow (frame, inr d) =
    let same = record_same (footer_of bytes) (footer_of bytes) f d.0 refl (said_of bytes place f h) d.1 in
    omega (arith, shallow, d.2, ap (λ (x : Footer). schema_nesting x.schema) same)

pub third : (bytes : List ℕ) (place : ℕ) (f : Footer) → Passes3 bytes place f → (¬ S1 bytes) × (¬ N2 bytes) × (¬ N7 bytes)
third bytes place f p = (no_s1 bytes place f p.footer, no_n2 bytes place f p.footer, no_n7 bytes place f p.footer p.shallow)

-- ---- the fifth stage

not_negative : (z : ℤ) (n : ℕ) → z ≡ pos n → IsNegative z → ⊥
not_negative z n e h = below n (subst (λ (y : ℤ). y <ℤ pos 0) e h)
  where
    below : (n : ℕ) → pos n <ℤ pos 0 → ⊥
    below n h = omega (arith, ints, h)

not_outside : (place : ℕ) (m : ChunkMeta) (l : Leaf) → ChunkIsPlaced place m l → LiesOutside place m → ⊥
not_outside place m l a (inl low) = below a.start a.behind_magic (subst (λ (z : ℤ). z <ℤ pos 4) a.starts low)
  where
    below : (n : ℕ) → 4 ≤ n → pos n <ℤ pos 4 → ⊥
    below n h k = omega (arith, ints, h, k)
not_outside place m l a (inr h) =
    let start = pos_same a.start h.0 (sym a.starts ∙ h.2) in
    let size = pos_same a.size h.1 (sym a.has_size ∙ h.3) in
    omega (arith, a.before_footer, h.4, start, size)

not_bad : (place : ℕ) (m : ChunkMeta) (l : Leaf) → ChunkIsPlaced place m l → ChunkIsBad place m l → ⊥
not_bad place m l a (inl d) = d a.physical
not_bad place m l a (inr (inl n)) = not_negative m.num_values a.num_values a.has_num_values n
not_bad place m l a (inr (inr (inl n))) = not_negative m.size a.size a.has_size n
not_bad place m l a (inr (inr (inr o))) = not_outside place m l a o

as_many : (place : ℕ) (ms : List ChunkMeta) (ls : List Leaf) → AllZip (ChunkIsPlaced place) ms ls → length ms ≡ length ls
as_many place [] [] a = refl
as_many place (m ∷ ms) (l ∷ ls) a = omega (arith, as_many place ms ls a.1)
as_many place [] (l ∷ ls) a = absurd a
as_many place (m ∷ ms) [] a = absurd a

none_bad : (place : ℕ) (ms : List ChunkMeta) (ls : List Leaf) → AllZip (ChunkIsPlaced place) ms ls → AnyZip (ChunkIsBad place) ms ls → ⊥
none_bad place (m ∷ ms) (l ∷ ls) a (inl b) = not_bad place m l a.0 b
none_bad place (m ∷ ms) (l ∷ ls) a (inr b) = none_bad place ms ls a.1 b
none_bad place [] ls a b = b
none_bad place (m ∷ ms) [] a b = b

good_group : (place : ℕ) (ls : List Leaf) (g : GroupMeta) → GroupIsPlaced place ls g → GroupIsBad place ls g → ⊥
good_group place ls g a (inl d) = d (as_many place g.chunks ls a.chunks)
good_group place ls g a (inr (inl n)) = not_negative g.num_rows a.rows a.has_rows n
good_group place ls g a (inr (inr b)) = none_bad place g.chunks ls a.chunks b

none_in : (P : ChunkMeta → Type 0) (place : ℕ) → ((m : ChunkMeta) (l : Leaf) → ChunkIsPlaced place m l → P m → ⊥) → (ms : List ChunkMeta) (ls : List Leaf) → AllZip (ChunkIsPlaced place) ms ls → AnyOf P ms → ⊥
none_in P place each [] ls a h = h
none_in P place each (m ∷ ms) [] a h = a
none_in P place each (m ∷ ms) (l ∷ ls) a (inl p) = each m l a.0 p
none_in P place each (m ∷ ms) (l ∷ ls) a (inr p) = none_in P place each ms ls a.1 p

none_of : (P Q : GroupMeta → Type 0) → ((g : GroupMeta) → P g → Q g → ⊥) → (gs : List GroupMeta) → All P gs → AnyOf Q gs → ⊥
none_of P Q each [] a h = h
none_of P Q each (g ∷ gs) a (inl q) = each g (All-head P g gs a) q
none_of P Q each (g ∷ gs) a (inr q) = none_of P Q each gs (All-tail P g gs a) q

pub fifth : (place : ℕ) (f : Footer) → All (GroupIsPlaced place (columns_of f.schema)) f.groups → (¬ S2 place f) × (¬ N1 f) × (¬ N3 f)
fifth place f a =
    let ls = columns_of f.schema in (
      none_of (GroupIsPlaced place ls) (GroupIsBad place ls) (λ g p b. good_group place ls g p b) f.groups a,
      none_of (GroupIsPlaced place ls) (λ g. AnyOf (λ m. m.codec ≢ pos 0) g.chunks) (λ g p b. none_in (λ m. m.codec ≢ pos 0) place (λ m l i d. d i.codec) g.chunks ls p.chunks b) f.groups a,
      none_of (GroupIsPlaced place ls) (λ g. AnyOf (λ m. (m.file_path ≢ None) × (m.file_path ≢ Some [])) g.chunks)
          (λ g p b. none_in (λ m. (m.file_path ≢ None) × (m.file_path ≢ Some [])) place (λ m l i d. elim i.here [ inl e ↦ d.0 e | inr e ↦ d.1 e ]) g.chunks ls p.chunks b)
          f.groups a,
    )
