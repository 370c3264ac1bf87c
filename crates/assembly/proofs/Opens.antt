-- Columns are opened one by one, the last one first.
use Rattle.std.proofs.Common.{◌≡◌, ◌≢◌, ◌⊎◌, inl, inr, ◌+◌, ◌<◌, ◌≤◌, ℕ, zero, suc, Option, Some, List, [], ◌∷◌, ◌++◌, length, map, take, drop, get_or, reverse, refl, sym, ap, subst, ◌∙◌, arith, true≢false}
use Rattle.std.proofs.lemmas.List.{reverse-append, get_or-take, take-take, length-map}
use Rattle.std.proofs.lemmas.List.Elements.{recursion_from_All, All-from_recursion}
use Rattle.std.specs.Prelude.{All}
use Rattle.std.specs.List.{AllZip, AllByRecursion as Each}
use Rattle.columns_base.specs.declared.error.Error.TheVariants.{Memory, InvalidArgumentError, NotYetImplemented}
use Rattle.columns_base.specs.declared.error.A.TheVariants.{A8}
use Rattle.columns_base.specs.declared.error.N.TheVariants.{N5}
use Rattle.columns_core.specs.Measures.{field_nesting}
use Rattle.columns_core.specs.Shapes.{base}
use Rattle.columns_core.specs.Tree.{TypeTree, FieldTree}
use Rattle.pq_tree.specs.Physical.{Physical}
use Rattle.pq_tree.specs.Tree.{Leaf}
use Rattle.schema_fit.specs.declared.page_table.Asked.{Asked}
use Rattle.schema_map.specs.Rows.{asked_by}
use Rattle.pq_pages.specs.Outcomes.{IsOfLevels}
use Rattle.pq_headline.specs.Columns.{ArrowColumn, field_columns, large_limit}
use Rattle.pq_headline.specs.Openings.{Opening, IsAlike, AreAlike, HaveLevels, leaf_levels}
use Rattle.assembly.specs.Read.{IsRead, IsLeafRead}
use Rattle.read_pieces.specs.Columns.{FailsAs}
use Rattle.read_pieces.specs.Pieces.{leaf_types}
use Rattle.assembly.specs.Giving.{IsOpened, Opens, RefusesOpening}
use Rattle.assembly.specs.Lanes.{lane, lanes, lanes_of}
use Rattle.assembly.specs.Paths.{Path, field_paths, field_fault}
use Rattle.assembly.proofs.Openings.{IsPath, ArePaths, all_paths, sound, some-none, fault_is}
use Rattle.assembly.proofs.Readers.{IsNestedSo, leaf_read, nested_columns}
use Rattle.assembly.proofs.Trees.{IsLimited, limited_columns}
use Rattle.std.proofs.Math.Seq.{get_or-append_seam, take-append_seam}
use Rattle.columns_base.specs.declared.error.Error.{Error}
use Rattle.pq_pages.specs.Outcomes.{Outcome}
use Rattle.pq_tree.specs.declared.types.PrimitiveType.{PrimitiveType}
use Rattle.read_columns.specs.Columns.{ColumnReading, IsReadingColumn, is_column_read}
use Rattle.assembly.specs.declared.paths.LeafPath.{LeafPath}
use Rattle.assembly.specs.Lanes.{Lane, AreReading}
use Rattle.assembly.specs.Opened.{IsOpen, AreOpen, IsNotRead, SomeIsNotRead, physical_in}
use Rattle.assembly.specs.Paths.{path_view}

-- the lane at a place
pub record Picked {I : Type 0} (outcomes : I → List Outcome) (n : Option ℕ) (rows : ℕ) (xs : List Lane) (k : ℕ) (path : LeafPath) (pages : I) (type : PrimitiveType) : Type 0 where
  pub lane : Lane
  pub at : drop k xs ≡ lane ∷ drop (suc k) xs
  pub open_ : IsOpen n rows lane (path_view path) (outcomes pages) (physical_in type)

pub picked :
    {I : Type 0} (outcomes : I → List Outcome) (n : Option ℕ) (rows : ℕ) (xs : List Lane) (paths : List LeafPath) (cols : List I) (types : List PrimitiveType) (k : ℕ) (path : LeafPath) (pages : I) (type : PrimitiveType)
    → AreOpen n rows xs (map path_view paths) (map outcomes cols) (map physical_in types) → k < length cols → path ≡ get_or paths k path → pages ≡ get_or cols k pages → type ≡ get_or types k type
    → Picked outcomes n rows xs k path pages type
picked outcomes n rows [] [] [] [] k path pages type h lt p q t = absurd (omega arith)
picked outcomes n rows [] [] [] (u ∷ types) k path pages type h lt p q t = absurd h
picked outcomes n rows [] [] (c ∷ cols) types k path pages type h lt p q t = absurd h
picked outcomes n rows [] (a ∷ paths) cols types k path pages type h lt p q t = absurd h
picked outcomes n rows (x ∷ xs) [] cols types k path pages type h lt p q t = absurd h
picked outcomes n rows (x ∷ xs) (a ∷ paths) [] types k path pages type h lt p q t = absurd h
picked outcomes n rows (x ∷ xs) (a ∷ paths) (c ∷ cols) [] k path pages type h lt p q t = absurd h
picked outcomes n rows (x ∷ xs) (a ∷ paths) (c ∷ cols) (u ∷ types) zero path pages type h lt p q t =
    record {
      lane = x;
      at = refl;
      open_ = subst (λ y. IsOpen n rows x (path_view y) (outcomes pages) (physical_in type)) (sym p) (subst (λ y. IsOpen n rows x (path_view a) (outcomes y) (physical_in type)) (sym q) (subst (λ y. IsOpen n rows x (path_view a) (outcomes c) (physical_in y)) (sym t) h.0));
    }
picked outcomes n rows (x ∷ xs) (a ∷ paths) (c ∷ cols) (u ∷ types) (suc k) path pages type h lt p q t =
    let r = picked outcomes n rows xs paths cols types k path pages type h.1 (omega arith) p q t in record { lane = r.lane; at = r.at; open_ = r.open_ }

pub fault_at :
    (paths : List LeafPath) (types : List PrimitiveType) (k : ℕ) (path : LeafPath) (type : PrimitiveType) (e : Error)
    → length paths ≡ length types → k < length types → path ≡ get_or paths k path → type ≡ get_or types k type → IsNotRead (path_view path) (physical_in type) e → SomeIsNotRead (map path_view paths) (map physical_in types) e
fault_at [] types k path type e l lt p t h = absurd (omega arith)
fault_at (a ∷ paths) [] k path type e l lt p t h = absurd (omega arith)
fault_at (a ∷ paths) (u ∷ types) zero path type e l lt p t h = inl (subst (λ y. IsNotRead (path_view y) (physical_in u) e) p (subst (λ y. IsNotRead (path_view path) (physical_in y) e) t h))
fault_at (a ∷ paths) (u ∷ types) (suc k) path type e l lt p t h = inr (fault_at paths types k path type e (omega arith) (omega arith) p t h)

-- ---- the last of those that are left

pub last_is : {A : Type 0} (all kept rest : List A) (x : A) → kept ≡ take (length kept) all → length kept ≤ length all → kept ≡ rest ++ x ∷ [] → length kept ≡ length rest + 1 → x ≡ get_or all (length rest) x
last_is all kept rest x k l e c =
    sym (get_or-append_seam rest x [] x) ∙ ap (λ q. get_or q (length rest) x) (sym e ∙ k) ∙ get_or-take (length kept) all (length rest) x (omega (arith, c))

pub rest_is : {A : Type 0} (all kept rest : List A) (x : A) → kept ≡ take (length kept) all → kept ≡ rest ++ x ∷ [] → length kept ≡ length rest + 1 → rest ≡ take (length rest) all
rest_is all kept rest x k e c =
    sym (take-append_seam rest (x ∷ [])) ∙ ap (take (length rest)) (sym e ∙ k) ∙ take-take (length rest) (length kept) all (omega (arith, c))

-- ---- readers that gave nothing

moved : (i j : ℕ) (xs : List Lane) (rs : List ColumnReading) → AreReading i xs rs [] → AreReading j xs rs []
moved i j [] [] h = tt
moved i j [] (r ∷ rs) h = absurd h
moved i j (x ∷ xs) [] h = absurd h
moved i j (x ∷ xs) (r ∷ rs) h = (h.0, moved (suc i) (suc j) xs rs h.1)

pub one_more :
    (k : ℕ) (xs : List Lane) (x : Lane) (rs : List ColumnReading) (r : ColumnReading) → drop k xs ≡ x ∷ drop (suc k) xs → AreReading 0 (drop (suc k) xs) (reverse rs) [] → IsReadingColumn x.opening x.type [] r
    → AreReading 0 (drop k xs) (reverse (rs ++ r ∷ [])) []
one_more k xs x rs r e h is =
    subst (λ q. AreReading 0 (drop k xs) q []) (sym (reverse-append rs (r ∷ []))) (subst (λ q. AreReading 0 q (r ∷ reverse rs) []) (sym e) (is, moved 0 1 (drop (suc k) xs) (reverse rs) h))

-- nothing is opened behind the last one
lanes_count :
    {I : Type 0} (outcomes : I → List Outcome) (n : Option ℕ) (rows : ℕ) (xs : List Lane) (paths : List LeafPath) (cols : List I) (types : List PrimitiveType)
    → AreOpen n rows xs (map path_view paths) (map outcomes cols) (map physical_in types) → drop (length cols) xs ≡ []
lanes_count outcomes n rows [] [] [] [] h = refl
lanes_count outcomes n rows [] [] [] (u ∷ types) h = absurd h
lanes_count outcomes n rows [] [] (c ∷ cols) types h = absurd h
lanes_count outcomes n rows [] (a ∷ paths) cols types h = absurd h
lanes_count outcomes n rows (x ∷ xs) [] cols types h = absurd h
lanes_count outcomes n rows (x ∷ xs) (a ∷ paths) [] types h = absurd h
lanes_count outcomes n rows (x ∷ xs) (a ∷ paths) (c ∷ cols) [] h = absurd h
lanes_count outcomes n rows (x ∷ xs) (a ∷ paths) (c ∷ cols) (u ∷ types) h = lanes_count outcomes n rows xs paths cols types h.1

pub none_open :
    {I : Type 0} (outcomes : I → List Outcome) (n : Option ℕ) (rows : ℕ) (xs : List Lane) (paths : List LeafPath) (cols : List I) (types : List PrimitiveType)
    → AreOpen n rows xs (map path_view paths) (map outcomes cols) (map physical_in types) → AreReading 0 (drop (length cols) xs) [] []
none_open outcomes n rows xs paths cols types h = subst (λ q. AreReading 0 q [] []) (sym (lanes_count outcomes n rows xs paths cols types h)) tt

-- ---- the columns of an opened field

leaf_open :
    (asked : Asked) (k : Option ℕ) (rows : ℕ) (c : ArrowColumn) (l : Leaf) (os : List Outcome) (t : TypeTree) (p : Path)
    → IsAlike asked c l → IsLimited c → IsPath [] c t p → All (IsOfLevels (leaf_levels l)) os → All FailsAs os → k ≢ Some 0 → IsOpen k rows (lane rows k c t l os) p os l.physical
leaf_open asked k rows c l os t p a m h levels failing some =
    record {
      type = h.type;
      column = record {
        typed = h.based;
        physical = refl;
        repetition = a.repetition;
        definition = a.definition;
        levels = levels;
        failing = failing;
        lists = m.lists;
        limited = All-from_recursion (λ n. n ≤ large_limit) c.limits m.limited;
        some = some;
      };
      way = h.way;
      outcomes_are = refl;
      rows_are = refl;
      chunk_size_is = refl;
    }

open_all :
    (asked : Asked) (k : Option ℕ) (rows : ℕ) (cs : List ArrowColumn) (types : List TypeTree) (ls : List Leaf) (others : List (List Outcome)) (ps : List Path)
    → ArePaths [] cs types ps → AllZip (IsAlike asked) cs ls → HaveLevels ls others → Each (All FailsAs) others → Each IsLimited cs → k ≢ Some 0 → AreOpen k rows (lanes rows k cs types ls others) ps others (map (λ l. l.physical) ls)
open_all asked k rows [] [] [] [] [] h a v f m some = tt
open_all asked k rows [] [] [] [] (p ∷ ps) h a v f m some = absurd h
open_all asked k rows [] [] [] (os ∷ others) ps h a v f m some = absurd v
open_all asked k rows [] [] (l ∷ ls) others ps h a v f m some = absurd a
open_all asked k rows [] (t ∷ types) ls others ps h a v f m some = absurd h
open_all asked k rows (c ∷ cs) [] ls others ps h a v f m some = absurd h
open_all asked k rows (c ∷ cs) (t ∷ types) [] others ps h a v f m some = absurd a
open_all asked k rows (c ∷ cs) (t ∷ types) (l ∷ ls) [] ps h a v f m some = absurd v
open_all asked k rows (c ∷ cs) (t ∷ types) (l ∷ ls) (os ∷ others) [] h a v f m some = absurd h
open_all asked k rows (c ∷ cs) (t ∷ types) (l ∷ ls) (os ∷ others) (p ∷ ps) h a v f m some =
    (leaf_open asked k rows c l os t p a.0 m.0 h.0 v.0 f.0 some, open_all asked k rows cs types ls others ps h.1 a.1 v.1 f.1 m.1 some)

pub opens_lanes :
    (o : Opening) (f : FieldTree) (outcomes : List (List Outcome)) (physicals : List Physical) (k : Option ℕ) (rows : ℕ) → Opens o f outcomes physicals k rows → k ≢ Some 0
    → AreOpen k rows (lanes_of o) (field_paths [] f) outcomes physicals
opens_lanes o f outcomes physicals k rows h some =
    let own : AreOpen o.chunk_size o.rows (lanes_of o) (field_paths [] o.field) o.outcomes (map (λ l. l.physical) o.leaves) =
    open_all (asked_by o.field) o.chunk_size o.rows (field_columns o.field) (leaf_types o.field) o.leaves o.outcomes (field_paths [] o.field) (all_paths o.field) (subst (λ g. AreAlike g o.leaves) (sym h.field) h.alike).are h.levels
    (recursion_from_All (All FailsAs) o.outcomes h.failing) (limited_columns o.field) (λ e. some (sym h.chunk_size_is ∙ e)) in
    subst (λ q. AreOpen k rows (lanes_of o) (field_paths [] f) outcomes q) h.physicals_are
    (subst (λ q. AreOpen k rows (lanes_of o) (field_paths [] f) q (map (λ l. l.physical) o.leaves)) h.outcomes_are
    (subst (λ q. AreOpen k rows (lanes_of o) (field_paths [] q) o.outcomes (map (λ l. l.physical) o.leaves)) h.field
    (subst (λ q. AreOpen k q (lanes_of o) (field_paths [] o.field) o.outcomes (map (λ l. l.physical) o.leaves)) h.rows_are
    (subst (λ q. AreOpen q o.rows (lanes_of o) (field_paths [] o.field) o.outcomes (map (λ l. l.physical) o.leaves)) h.chunk_size_is own))))

-- ---- why a field is not opened

counts :
    (asked : Asked) (cs : List ArrowColumn) (types : List TypeTree) (ls : List Leaf) (others : List (List Outcome)) (ps : List Path)
    → ArePaths [] cs types ps → AllZip (IsAlike asked) cs ls → HaveLevels ls others → (length ps ≡ length others) × (length ls ≡ length others)
counts asked [] [] [] [] [] h a v = (refl, refl)
counts asked [] [] [] [] (p ∷ ps) h a v = absurd h
counts asked [] [] [] (os ∷ others) ps h a v = absurd v
counts asked [] [] (l ∷ ls) others ps h a v = absurd a
counts asked [] (t ∷ types) ls others ps h a v = absurd h
counts asked (c ∷ cs) [] ls others ps h a v = absurd h
counts asked (c ∷ cs) (t ∷ types) [] others ps h a v = absurd a
counts asked (c ∷ cs) (t ∷ types) (l ∷ ls) [] ps h a v = absurd v
counts asked (c ∷ cs) (t ∷ types) (l ∷ ls) (os ∷ others) [] h a v = absurd h
counts asked (c ∷ cs) (t ∷ types) (l ∷ ls) (os ∷ others) (p ∷ ps) h a v = let r = counts asked cs types ls others ps h.1 a.1 v.1 in (ap (λ n. suc n) r.0, ap (λ n. suc n) r.1)

pub opens_counts :
    (o : Opening) (f : FieldTree) (outcomes : List (List Outcome)) (physicals : List Physical) (k : Option ℕ) (rows : ℕ) → Opens o f outcomes physicals k rows
    → (length (field_paths [] f) ≡ length outcomes) × (length physicals ≡ length outcomes)
opens_counts o f outcomes physicals k rows h =
    let c = counts (asked_by o.field) (field_columns o.field) (leaf_types o.field) o.leaves o.outcomes (field_paths [] o.field) (all_paths o.field) (subst (λ g. AreAlike g o.leaves) (sym h.field) h.alike).are h.levels in
    (ap (λ g. length (field_paths [] g)) (sym h.field) ∙ c.0 ∙ ap length h.outcomes_are, ap length (sym h.physicals_are) ∙ length-map o.leaves (λ l. l.physical) ∙ c.1 ∙ ap length h.outcomes_are)

none_unread :
    (asked : Asked) (cs : List ArrowColumn) (types : List TypeTree) (ls : List Leaf) (ps : List Path) (e : Error)
    → ArePaths [] cs types ps → AllZip (IsAlike asked) cs ls → AllZip IsLeafRead cs ls → Each (IsNestedSo asked) cs → SomeIsNotRead ps (map (λ l. l.physical) ls) e → ⊥
none_unread asked [] [] [] [] e h a w n s = s
none_unread asked [] [] [] (p ∷ ps) e h a w n s = h
none_unread asked [] [] (l ∷ ls) ps e h a w n s = a
none_unread asked [] (t ∷ types) ls ps e h a w n s = h
none_unread asked (c ∷ cs) [] ls ps e h a w n s = h
none_unread asked (c ∷ cs) (t ∷ types) [] ps e h a w n s = a
none_unread asked (c ∷ cs) (t ∷ types) (l ∷ ls) [] e h a w n s = h
none_unread asked (c ∷ cs) (t ∷ types) (l ∷ ls) (p ∷ ps) e h a w n (inl s) =
    true≢false (sym (leaf_read asked c l t p a.0 w.0 n.0 h.0) ∙ ap (λ q. is_column_read p.0 q l.physical) (h.0.based ∙ ap base (sym h.0.type)) ∙ s.1)
none_unread asked (c ∷ cs) (t ∷ types) (l ∷ ls) (p ∷ ps) e h a w n (inr s) = none_unread asked cs types ls ps e h.1 a.1 w.1 n.1 s

pub all_read :
    (o : Opening) (f : FieldTree) (outcomes : List (List Outcome)) (physicals : List Physical) (k : Option ℕ) (rows : ℕ) (e : Error) → Opens o f outcomes physicals k rows
    → SomeIsNotRead (field_paths [] f) physicals e → ⊥
all_read o f outcomes physicals k rows e h s =
    let r = subst (λ g. IsRead g o.leaves) (sym h.field) h.read in
    none_unread (asked_by o.field) (field_columns o.field) (leaf_types o.field) o.leaves (field_paths [] o.field) e (all_paths o.field) (subst (λ g. AreAlike g o.leaves) (sym h.field) h.alike).are
    r.leaves (nested_columns o.field r.nodes)
    (subst (λ g. SomeIsNotRead (field_paths [] g) (map (λ l. l.physical) o.leaves) e) (sym h.field) (subst (λ q. SomeIsNotRead (field_paths [] f) q e) (sym h.physicals_are) s))

unread_is : (ps : List Path) (qs : List Physical) (e : Error) → SomeIsNotRead ps qs e → e ≡ NotYetImplemented N5
unread_is [] qs e h = absurd h
unread_is (p ∷ ps) [] e h = absurd h
unread_is (p ∷ ps) (q ∷ qs) e (inl h) = h.0
unread_is (p ∷ ps) (q ∷ qs) e (inr h) = unread_is ps qs e h

pub not_read :
    (f : FieldTree) (outcomes : List (List Outcome)) (physicals : List Physical) (k : Option ℕ) (rows : ℕ) (e : Error) → (e ≡ Memory) ⊎ SomeIsNotRead (field_paths [] f) physicals e → RefusesOpening f outcomes physicals k rows e
not_read f outcomes physicals k rows e (inl m) = inl m
not_read f outcomes physicals k rows e (inr s) = inr (inr (inr (unread_is (field_paths [] f) physicals e s), (λ o h. all_read o f outcomes physicals k rows e h s)))

pub not_as_many :
    (f : FieldTree) (outcomes : List (List Outcome)) (physicals : List Physical) (k : Option ℕ) (rows : ℕ)
    → (length (field_paths [] f) ≡ length outcomes → length physicals ≡ length outcomes → ⊥) → RefusesOpening f outcomes physicals k rows (InvalidArgumentError A8)
not_as_many f outcomes physicals k rows g = inr (inr (inl refl, (λ o h. let c = opens_counts o f outcomes physicals k rows h in g c.0 c.1)))

pub not_sound :
    (f : FieldTree) (outcomes : List (List Outcome)) (physicals : List Physical) (k : Option ℕ) (rows : ℕ) (e : Error) → (e ≡ Memory) ⊎ (field_fault f ≡ Some e) → RefusesOpening f outcomes physicals k rows e
not_sound f outcomes physicals k rows e (inl m) = inl m
not_sound f outcomes physicals k rows e (inr s) =
    inr (inr (fault_is f e s, (λ o h. some-none e (sym s ∙ sound f h.read.nodes h.alike.structs))))

pub opened_giving :
    (o : Opening) (f : FieldTree) (outcomes : List (List Outcome)) (physicals : List Physical) (k : Option ℕ) (rows : ℕ) → Opens o f outcomes physicals k rows → k ≢ Some 0 → field_nesting f ≤ 128 → IsOpened o
opened_giving o f outcomes physicals k rows h some n =
    record {
      alike = subst (λ g. AreAlike g o.leaves) (sym h.field) h.alike;
      levels = h.levels;
      failing = h.failing;
      read = subst (λ g. IsRead g o.leaves) (sym h.field) h.read;
      shallow = subst (λ g. field_nesting g ≤ 128) (sym h.field) n;
      some = λ e. some (sym h.chunk_size_is ∙ e);
    }
