-- From the Thrift value in front of bytes to the whole footer.
use Rattle.std.proofs.Common.{◌≡◌, ℕ, ◌≤◌, List, take, drop, refl, sym, ap, subst, ◌∙◌, inl, inr, arith}
use Rattle.std.specs.Prelude.{Result, Ok, Err}
use Rattle.std.proofs.lemmas.List.{take-append-drop}
use Rattle.columns_base.specs.declared.error.Error.{Error}
use Rattle.columns_base.specs.declared.error.Error.TheVariants.{ReadFault, WriteFault, InputLimit, OutOfSpec, NotYetImplemented, InvalidArgumentError, Overflow, Memory}
use Rattle.columns_base.specs.declared.error.S.TheVariants.{S1}
use Rattle.columns_base.specs.declared.error.N.TheVariants.{N2}
use Rattle.pq_numbers.specs.Texts.{Begins}
use Rattle.pq_thrift.specs.declared.value.Thrift.{Thrift}
use Rattle.pq_thrift.specs.Grammar.{Spells, depth}
use Rattle.pq_thrift.specs.Nesting.{IsOutside}
use Rattle.pq_thrift.specs.Reading.{max_depth}
use Rattle.pq_thrift.specs.Value.{Value, struct, view}
use Rattle.pq_thrift.proofs.OneReading.{same_reading}
use Rattle.pq_metadata.specs.Encrypted.{SaysEncrypted}
use Rattle.pq_metadata.specs.FlatFooter.{FlatFooter, SpellsFlatFooter, SpellsFlatRecord, flat_form}
use Rattle.pq_metadata.specs.Footer.{Footer, SpellsFooter}
use Rattle.pq_tree.specs.Forest.{AreTrees, RefusesTrees}
use Rattle.pq_metadata.specs.Metadata.{IsFooterText, FooterIsEncrypted, NoFooter, RefusesMetadata}
use Rattle.pq_tree.specs.Reads.{HasNone, Refuses}
use Rattle.pq_tree.specs.Tree.{Trees}
use Rattle.pq_metadata.proofs.Flat.{flat_same}
use Rattle.pq_metadata.proofs.FlatOnce.{flat_once}
use Rattle.pq_container.proofs.FromBytes.{Told, nothing_read, read_none, not_deep}

to_flat : (v : Value) (f : Footer) → SpellsFooter v f → SpellsFlatFooter v (flat_form f)
to_flat (struct fs) f s = (flat_same fs f).0 s
to_flat _ f s = absurd s

from_flat : (v : Value) (f : Footer) → SpellsFlatFooter v (flat_form f) → SpellsFooter v f
from_flat (struct fs) f s = (flat_same fs f).1 s
from_flat _ f s = absurd s

-- a footer whose flat form stands in front
pub begins_footer : (bytes : List ℕ) (f : Footer) (flat : FlatFooter) → Begins SpellsFlatRecord bytes flat → flat_form f ≡ flat → Begins IsFooterText bytes f
begins_footer bytes f flat b e = record { text = b.text; rest = b.rest; parts = b.parts; spells = (b.spells.0, b.spells.1, b.spells.2, from_flat b.spells.0 f (subst (SpellsFlatFooter b.spells.0) (sym e) b.spells.3)) }

-- ---- no value is read

outside : (bytes : List ℕ) → IsOutside bytes → HasNone (Begins IsFooterText bytes) → NoFooter bytes
outside bytes o none =
    record {
      shallow = λ d. (elim d [ inl deep ↦ o.shallow deep | inr f ↦ none f.0 f.1 ]);
      plain = λ e. o.spells_none e.1.text e.1.rest e.0 e.1.parts e.1.spells;
      none = none;
    }

pub metadata_nothing : (bytes : List ℕ) (e : Error) → Told bytes (Err e) → ((let r : Result (Thrift × ℕ) Error = Err e in r) ≡ Err (OutOfSpec S1) → IsOutside bytes) → RefusesMetadata bytes e
metadata_nothing bytes Memory t o = inl refl
metadata_nothing bytes (OutOfSpec s) t o =
    elim (nothing_read SpellsFooter bytes (OutOfSpec s) t) [
      | inl m ↦ cc m
      | inr n ↦ inr (inr (inr (ap OutOfSpec t.exact.0, outside bytes (o (ap (λ x. Err (OutOfSpec x)) t.exact.0)) n)))
    ]
metadata_nothing bytes (NotYetImplemented n) t o = inr (inl (ap NotYetImplemented t.exact.0, inl (t.only_deep (ap (λ m. Err (NotYetImplemented m)) t.exact.0))))
metadata_nothing bytes ReadFault t o = absurd t.exact
metadata_nothing bytes WriteFault t o = absurd t.exact
metadata_nothing bytes (InputLimit l) t o = absurd t.exact
metadata_nothing bytes (InvalidArgumentError a) t o = absurd t.exact
metadata_nothing bytes (Overflow v) t o = absurd t.exact

-- ---- a value is read

module _ (bytes : List ℕ) (x : Thrift × ℕ) (spells : Spells (take x.1 bytes) (view x.0)) (deep : depth (view x.0) ≤ max_depth) (told : Told bytes (Ok x)) where
  begins : Begins Spells bytes (view x.0)
  begins = record { text = take x.1 bytes; rest = drop x.1 bytes; parts = sym (take-append-drop x.1 bytes); spells = spells }

  pub metadata_encrypted : SaysEncrypted (view x.0) → RefusesMetadata bytes (NotYetImplemented N2)
  metadata_encrypted says = inr (inr (inl (refl, (view x.0, begins, says))))

  not_encrypted : ¬ SaysEncrypted (view x.0) → ¬ FooterIsEncrypted bytes
  not_encrypted plain e =
      let same = same_reading e.1.text (take x.1 bytes) e.1.rest (drop x.1 bytes) e.0 (view x.0) e.1.spells spells (sym e.1.parts ∙ sym (take-append-drop x.1 bytes)) in
      plain (subst SaysEncrypted same.1 e.2)

  no_footer : ¬ SaysEncrypted (view x.0) → HasNone (SpellsFooter (view x.0)) → NoFooter bytes
  no_footer plain none =
      let nothing : HasNone (Begins IsFooterText bytes) = read_none SpellsFooter bytes x told none in
      record {
        shallow = λ d. (elim d [ inl h ↦ not_deep bytes x told h | inr f ↦ nothing f.0 f.1 ]);
        plain = not_encrypted plain;
        none = nothing;
      }

  pub metadata_none : (e : Error) → ¬ SaysEncrypted (view x.0) → Refuses (OutOfSpec S1) (SpellsFlatFooter (view x.0)) e → RefusesMetadata bytes e
  metadata_none e plain r = elim r [ inl m ↦ inl m | inr n ↦ inr (inr (inr (n.0, no_footer plain (λ f s. n.1 (flat_form f) (to_flat (view x.0) f s))))) ]

  -- a footer that stands in front
  footer_text : (f : Footer) → SpellsFooter (view x.0) f → Begins IsFooterText bytes f
  footer_text f s = record { text = take x.1 bytes; rest = drop x.1 bytes; parts = sym (take-append-drop x.1 bytes); spells = (view x.0, spells, deep, s) }

  pub metadata_found : (f : Footer) (flat : FlatFooter) → SpellsFlatFooter (view x.0) flat → flat_form f ≡ flat → Begins IsFooterText bytes f
  metadata_found f flat h e = footer_text f (from_flat (view x.0) f (subst (SpellsFlatFooter (view x.0)) (sym e) h))

  footer_of_trees : FlatFooter → Trees → Footer
  footer_of_trees flat ts = record { schema = record { name = flat.name; fields = ts }; groups = flat.groups; keys = flat.keys }

  same_flat : (flat : FlatFooter) (ts : Trees) → AreTrees flat.nodes flat.children ts → flat_form (footer_of_trees flat ts) ≡ flat
  unfolding footer_of_trees
  same_flat flat ts a = λ i. record { name = flat.name; children = a.counts i; nodes = sym a.are i; groups = flat.groups; keys = flat.keys }

  no_trees_no_footer : (flat : FlatFooter) → SpellsFlatFooter (view x.0) flat → HasNone (AreTrees flat.nodes flat.children) → HasNone (SpellsFooter (view x.0))
  no_trees_no_footer flat h none f s =
      let same : flat_form f ≡ flat = flat_once (view x.0) (flat_form f) flat (to_flat (view x.0) f s) h in
      none f.schema.fields record { counts = ap (λ z. z.children) same; are = sym (ap (λ z. z.nodes) same) }

  pub metadata_refused : (flat : FlatFooter) (e : Error) → ¬ SaysEncrypted (view x.0) → SpellsFlatFooter (view x.0) flat → RefusesTrees flat.nodes flat.children e → RefusesMetadata bytes e
  unfolding footer_of_trees
  metadata_refused flat e plain h (inl m) = inl m
  metadata_refused flat e plain h (inr (inl n)) = inr (inr (inr (n.0, no_footer plain (no_trees_no_footer flat h n.1))))
  metadata_refused flat e plain h (inr (inr d)) =
      let f : Footer = footer_of_trees flat d.1 in
      inr (inl (d.0, inr (f, metadata_found f flat h (same_flat flat d.1 d.2), omega (arith, d.3))))
