-- The keys of a file, and why its end is refused.
use Rattle.std.proofs.Common.{◌≡◌, ◌⊎◌, inl, inr, ℕ, suc, List, [], ◌∷◌, length, Option, None, Some, map, option_map, refl, ap, ◌∙◌, sym}
use Rattle.std.specs.Prelude.{Vec, Result, Err}
use Rattle.std.proofs.lemmas.List.{length-map}
use Rattle.columns_base.specs.declared.error.Error.{Error}
use Rattle.columns_base.specs.declared.error.Error.TheVariants.{Memory, Overflow, WriteFault}
use Rattle.columns_base.specs.declared.error.V.TheVariants.{V3}
use Rattle.pq_files.specs.Layout.{OutChunk}
use Rattle.pq_tree.specs.Paths.{names_of, path_view}
use Rattle.pq_tree.specs.Tree.{Leaf}
use Rattle.pq_tree.specs.declared.version.Version.{Version}
use Rattle.write_file.specs.Leaves.{AreMetasOf}
use Rattle.write_file.specs.Pages.{AllGive}
use Rattle.write_file.specs.declared.leaf.LeafMetas.{LeafMetas}
use Rattle.std.specs.Global.{Global}
use Rattle.pq_tree.specs.Footers.{Key}
use Rattle.pq_tree.specs.TreeViews.{pairs_view}
use Rattle.pq_tree.specs.Views.{key_view, physical_view}
use Rattle.pq_tree.specs.declared.types.KeyValue.{KeyValue}

keys_or : List Key → Option (List Key) → List Key
keys_or ks (Some xs) = xs
keys_or ks None = ks

pub pairs_are : (o : Option (Vec KeyValue Global)) (ks : List Key) → option_map (λ v. map key_view v.items) o ≡ Some ks → pairs_view o ≡ ks
unfolding keys_or
pairs_are (Some v) ks e = ap (keys_or ks) e
pairs_are None ks e = ap (keys_or (pairs_view None)) e

-- the end is refused for these reasons
pub end_refused : {P Q R S : Type 0} (e : Error) → (e ≡ Memory) ⊎ (e ≡ WriteFault) ⊎ ((e ≡ Overflow V3) × P) → (◌≡◌ {A = Result ℕ Error} (Err e) (Err WriteFault) → R) → (P → S) → (e ≡ Memory) ⊎ ((e ≡ WriteFault) × R) ⊎ ((e ≡ Overflow V3) × (Q ⊎ S))
end_refused e (inl h) r f = inl h
end_refused e (inr (inl h)) r f = inr (inl (h, r (ap Err h)))
end_refused e (inr (inr h)) r f = inr (inr (h.0, inr (f h.1)))

-- ---- a group

-- a group is refused for these reasons
pub group_refused : {P Q R : Type 0} (F : Error → Type 0) (e : Error) → (e ≡ Memory) ⊎ (e ≡ WriteFault) ⊎ ((e ≡ Overflow V3) × P) ⊎ F e → (◌≡◌ {A = Result (Unit {0}) Error} (Err e) (Err WriteFault) → R ⊎ F WriteFault) → (P → Q) → (e ≡ Memory) ⊎ ((e ≡ WriteFault) × (R ⊎ F WriteFault)) ⊎ ((e ≡ Overflow V3) × Q) ⊎ F e
group_refused F e (inl h) r f = inl h
group_refused F e (inr (inl h)) r f = inr (inl (h, r (ap Err h)))
group_refused F e (inr (inr (inl h))) r f = inr (inr (inl (h.0, f h.1)))
group_refused F e (inr (inr (inr h))) r f = inr (inr (inr h))

pub give_lengths : {S : Type 0} (gives : S → Version → Leaf → OutChunk → Type 0) (version : Version) (ls : List Leaf) (cs : List OutChunk) (ss : List S) → AllGive gives version ls cs ss → length ls ≡ length ss
give_lengths gives version [] [] [] h = refl
give_lengths gives version [] [] (t ∷ ss) h = absurd h
give_lengths gives version [] (c ∷ cs) ss h = absurd h
give_lengths gives version (l ∷ ls) [] ss h = absurd h
give_lengths gives version (l ∷ ls) (c ∷ cs) [] h = absurd h
give_lengths gives version (l ∷ ls) (c ∷ cs) (t ∷ ss) h = ap suc (give_lengths gives version ls cs ss h.2)

-- the metadata's leaves are as many
pub metas_are : (ls : List Leaf) (m : LeafMetas) (n : ℕ) → AreMetasOf ls m → length ls ≡ n → (length m.physicals.items ≡ n) × (length m.paths.items ≡ n)
metas_are ls m n h e = (
  sym (length-map m.physicals.items physical_view) ∙ (ap length h.physicals ∙ (length-map ls (λ (l : Leaf). l.physical) ∙ e)),
  sym (length-map m.paths.items path_view) ∙ (ap length h.paths ∙ (length-map ls names_of ∙ e)),
)
