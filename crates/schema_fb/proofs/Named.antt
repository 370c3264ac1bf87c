-- An extension's entries in the metadata of its field.
use Rattle.std.proofs.Common.{◌≡◌, ℕ, List, [], ◌∷◌, Bool, true, false, cond, Option, Some, None, refl, sym, ap, subst, ◌∙◌}
use Rattle.std.specs.Ordering.{nat_cmp}
use Rattle.std.specs.Cmp.Lexicographic.{slice_cmp, bytes_decides}
use Rattle.std.specs.BTreeMap.{is_at}
use Rattle.std.proofs.lemmas.Map.Text.{is_eq-slice_cmp}
use Rattle.columns_core.specs.Meta.{Meta, text_at, without_key}
use Rattle.columns_core.specs.Tree.{TypeTree, t_extension, field}
use Rattle.schema_fb.specs.Extensions.{name_key, metadata_key}
use Rattle.schema_fb.specs.Reading.{made_field}

-- a key that is not there is not taken out
pub nothing_out : (key : List ℕ) (m : Meta) → text_at key m ≡ None → without_key key m ≡ m
nothing_out key [] h = refl
nothing_out key (e ∷ es) h = here (is_at (slice_cmp nat_cmp key) e.0) h (nothing_out key es)
  where
    here : (b : Bool) → cond b (Some e.1) (text_at key es) ≡ None → (text_at key es ≡ None → without_key key es ≡ es) → cond b es (e ∷ without_key key es) ≡ e ∷ es
    here true h others = cc
    here false h others = ap (λ (m : Meta). e ∷ m) (others h)

-- the extension's own metadata stays where its name is taken out
pub metadata_stays : (m : Meta) → text_at metadata_key (without_key name_key m) ≡ text_at metadata_key m
metadata_stays [] = refl
metadata_stays (e ∷ es) = here (is_at (slice_cmp nat_cmp name_key) e.0) refl (metadata_stays es)
  where
    here : (b : Bool) → is_at (slice_cmp nat_cmp name_key) e.0 ≡ b → text_at metadata_key (without_key name_key es) ≡ text_at metadata_key es
        → text_at metadata_key (cond b es (e ∷ without_key name_key es)) ≡ cond (is_at (slice_cmp nat_cmp metadata_key) e.0) (Some e.1) (text_at metadata_key es)
    here true same others =
        let key : name_key ≡ e.0 = (bytes_decides name_key e.0).0 (sym (is_eq-slice_cmp name_key e.0) ∙ same) in
        subst (λ (k : List ℕ). text_at metadata_key es ≡ cond (is_at (slice_cmp nat_cmp metadata_key) k) (Some e.1) (text_at metadata_key es)) key refl
    here false same others = ap (cond (is_at (slice_cmp nat_cmp metadata_key) e.0) (Some e.1)) others

pub made_plain : (name : List ℕ) (nullable : Bool) (type : TypeTree) (m after : Meta) → text_at name_key m ≡ None → after ≡ without_key name_key m
    → field name type nullable after ≡ made_field name nullable type m
made_plain name nullable type m after h same = rw (h, same ∙ nothing_out name_key m h) refl

pub made_extension : (name : List ℕ) (nullable : Bool) (type : TypeTree) (m one two : Meta) (extension : List ℕ) (text : Option (List ℕ)) → text_at name_key m ≡ Some extension → one ≡ without_key name_key m
    → text ≡ text_at metadata_key one → two ≡ without_key metadata_key one → field name (t_extension extension type text) nullable two ≡ made_field name nullable type m
made_extension name nullable type m one two extension text h same there others =
    let text_is : text ≡ text_at metadata_key m = there ∙ ap (text_at metadata_key) same ∙ metadata_stays m in
    let rest_is : two ≡ without_key metadata_key (without_key name_key m) = others ∙ ap (without_key metadata_key) same in
    rw (h, text_is, rest_is) refl
