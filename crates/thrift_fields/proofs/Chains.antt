-- Fields one behind the other are those of a struct.
use Rattle.std.proofs.Common.{◌≡◌, ◌<◌, ◌≤◌, ◌+◌, ◌^◌, Bool, ℕ, suc, ℤ, pos, negsuc, List, [], ◌∷◌, ◌++◌, length, map, drop, get_or, Option, Some, None, refl, ap, sym, subst, ◌∙◌, append_assoc, arith, SFits, w16, w32, w64}
use Rattle.std.proofs.lemmas.Grind.{common_steps}
use Rattle.std.proofs.lemmas.Int.{ints}
use Rattle.pq_numbers.specs.Zigzag.{zigzag}
use Rattle.pq_thrift.specs.Grammar.{count}
use Rattle.pq_thrift.specs.Value.{Value, truth, struct, list, Values, values_of, Fields, no_fields, field}
use Rattle.pq_thrift.specs.Spelling.{number_of, field_head, list_head, kind_in_field, behind_head, spell, spell_values, spell_fields, ValuesFit, FieldsFit}
use Rattle.pq_files.specs.Written.{at_some}
use Rattle.thrift_fields.specs.Appended.{spell_field, AppendsValue, AppendsValues, AppendsField, AppendsSome}

-- fields to the end of their struct, behind one with the id `last`
pub record Ends (last : ℕ) (fs : Fields) (old new : List ℕ) : Type 0 where
  pub spelled : new ≡ old ++ spell_fields fs (pos last)
  pub fits : FieldsFit fs

pub ends : {last : ℕ} {old new : List ℕ} → new ≡ old ++ 0 ∷ [] → Ends last no_fields old new
ends e = record { spelled = e; fits = tt }

pub behind : {last id : ℕ} {v : Value} {fs : Fields} {old mid new : List ℕ} → AppendsField last id v old mid → Ends id fs mid new → Ends last (field (pos id) v fs) old new
behind {last = last} {id = id} {v = v} {fs = fs} {old = old} f g =
    record {
      spelled =
          g.spelled
          ∙ ap (λ xs. xs ++ spell_fields fs (pos id)) f.spelled
          ∙ append_assoc old (spell_field last id v) (spell_fields fs (pos id))
          ∙ ap (λ xs. old ++ xs) (append_assoc (field_head (pos last) (pos id) (number_of (kind_in_field v))) (behind_head v (spell v)) (spell_fields fs (pos id)));
      fits = (f.near, f.fits, g.fits);
    }

pub behind_some : {last : ℕ} (id : ℕ) {next : ℕ} {fs : Fields} {old mid new : List ℕ} → (o : Option Value) → AppendsSome last id o next old mid → Ends next fs mid new → Ends last (at_some id o fs) old new
behind_some {last = last} id {next = next} {fs = fs} {old = old} {mid = mid} {new = new} None f g = subst (λ n. Ends n fs old new) f.0 (subst (λ (xs : List ℕ). Ends next fs xs new) f.1 g)
behind_some {last = last} id {next = next} {fs = fs} {old = old} {mid = mid} {new = new} (Some v) f g = behind f.1 (subst (λ n. Ends n fs mid new) f.0 g)

pub whole : {fs : Fields} {old new : List ℕ} → Ends 0 fs old new → AppendsValue (struct fs) old new
whole g = record { spelled = g.spelled; fits = g.fits }

-- ---- one field

pub right : (xs : List ℕ) → xs ++ [] ≡ xs
right [] = refl
right (x ∷ xs) = ap (λ ys. x ∷ ys) (right xs)

pub near16 : (z : ℤ) → SFits w16 z → zigzag z < 2 ^ 16
near16 (pos n) f = omega (arith, ints)
near16 (negsuc n) f = omega (arith, ints)

pub near32 : (z : ℤ) → SFits w32 z → zigzag z < 2 ^ 32
near32 (pos n) f = omega (arith, ints)
near32 (negsuc n) f = omega (arith, ints)

pub near64 : (z : ℤ) → SFits w64 z → zigzag z < 2 ^ 64
near64 (pos n) f = omega (arith, ints)
near64 (negsuc n) f = omega (arith, ints)

pub near8 : (n : ℕ) → n < 256 → zigzag (pos n) < 2 ^ 16
near8 n h = omega (arith, h)

pub value_field : {last id : ℕ} {v : Value} {old mid new : List ℕ} → behind_head v (spell v) ≡ spell v → id < 256 → mid ≡ old ++ field_head (pos last) (pos id) (number_of (kind_in_field v)) → AppendsValue v mid new → AppendsField last id v old new
value_field {last = last} {id = id} {v = v} {old = old} same h e g =
    let head = field_head (pos last) (pos id) (number_of (kind_in_field v)) in
    record {
      spelled = g.spelled ∙ ap (λ xs. xs ++ spell v) e ∙ append_assoc old head (spell v) ∙ ap (λ xs. old ++ (head ++ xs)) (sym same);
      fits = g.fits;
      near = near8 id h;
    }

pub truth_field : {last id : ℕ} {b : Bool} {old new : List ℕ} → id < 256 → new ≡ old ++ field_head (pos last) (pos id) (number_of (kind_in_field (truth b))) → AppendsField last id (truth b) old new
truth_field {last = last} {id = id} {b = b} {old = old} h e =
    record { spelled = e ∙ ap (λ xs. old ++ xs) (sym (right (field_head (pos last) (pos id) (number_of (kind_in_field (truth b)))))); fits = tt; near = near8 id h }

-- ---- structs and lists as fields

pub struct_field : {last id : ℕ} {fs : Fields} {old mid new : List ℕ} → id < 256 → mid ≡ old ++ field_head (pos last) (pos id) 12 → AppendsValue (struct fs) mid new → AppendsField last id (struct fs) old new
struct_field {fs = fs} h e g = value_field {v = struct fs} refl h e g

pub list_field : {last id : ℕ} {number : ℕ} {vs : Values} {n : ℕ} {old mid new : List ℕ} → id < 256 → n < 2 ^ 64 → n ≡ count vs → mid ≡ old ++ (field_head (pos last) (pos id) 9 ++ list_head number n) → AppendsValues vs mid new → AppendsField last id (list number vs) old new
list_field {last = last} {id = id} {number = number} {vs = vs} {n = n} {old = old} h small c e g =
    let head = field_head (pos last) (pos id) 9 in
    record {
      spelled =
          g.spelled
          ∙ ap (λ xs. xs ++ spell_values vs) (e ∙ ap (λ k. old ++ (head ++ list_head number k)) c)
          ∙ append_assoc old (head ++ list_head number (count vs)) (spell_values vs)
          ∙ ap (λ xs. old ++ xs) (append_assoc head (list_head number (count vs)) (spell_values vs));
      fits = (subst (λ k. k < 2 ^ 64) c small, g.fits);
      near = near8 id h;
    }

-- ---- values one behind the other

-- what is left of some values from a place on
pub record Left {A : Type 0} (f : A → Value) (xs : List A) (i : ℕ) (old new : List ℕ) : Type 0 where
  pub spelled : new ++ spell_values (values_of (map f (drop i xs))) ≡ old ++ spell_values (values_of (map f xs))
  pub fits : ValuesFit (values_of (map f (drop i xs))) → ValuesFit (values_of (map f xs))

pub starts : {A : Type 0} (f : A → Value) (xs : List A) (old : List ℕ) → Left f xs 0 old old
starts f xs old = record { spelled = refl; fits = λ h. h }

drop_next : {A : Type 0} (xs : List A) (i : ℕ) (x : A) → i < length xs → x ≡ get_or xs i x → drop i xs ≡ x ∷ drop (i + 1) xs
drop_next xs i x h e = grind (arith, common_steps)

pub goes_on : {A : Type 0} {f : A → Value} {xs : List A} {i : ℕ} {old mid new : List ℕ} (x : A) → i < length xs → x ≡ get_or xs i x → AppendsValue (f x) mid new → Left f xs i old mid → Left f xs (i + 1) old new
goes_on {f = f} {xs = xs} {i = i} {old = old} {mid = mid} x h e v l =
    let next = drop_next xs i x h e in
    let rest = spell_values (values_of (map f (drop (i + 1) xs))) in
    record {
      spelled =
          ap (λ ys. ys ++ rest) v.spelled
          ∙ append_assoc mid (spell (f x)) rest
          ∙ ap (λ ys. mid ++ spell_values (values_of (map f ys))) (sym next)
          ∙ l.spelled;
      fits = λ g. l.fits (subst (λ ys. ValuesFit (values_of (map f ys))) (sym next) (v.fits, g));
    }

none_left : {A : Type 0} (xs : List A) (i : ℕ) → length xs ≤ i → drop i xs ≡ []
none_left xs i h = grind (arith, common_steps)

pub all_done : {A : Type 0} {f : A → Value} {xs : List A} {i : ℕ} {old new : List ℕ} → length xs ≤ i → Left f xs i old new → AppendsValues (values_of (map f xs)) old new
all_done {f = f} {xs = xs} {i = i} {old = old} {new = new} h l =
    let none = none_left xs i h in
    record {
      spelled = sym (right new) ∙ ap (λ ys. new ++ spell_values (values_of (map f ys))) (sym none) ∙ l.spelled;
      fits = l.fits (subst (λ ys. ValuesFit (values_of (map f ys))) (sym none) tt);
    }

pub count_is : {A : Type 0} (f : A → Value) (xs : List A) → count (values_of (map f xs)) ≡ length xs
count_is f [] = refl
count_is f (x ∷ xs) = ap suc (count_is f xs)

pub count_of : {A B : Type 0} (f : B → Value) (g : A → B) (xs : List A) → count (values_of (map f (map g xs))) ≡ length xs
count_of f g [] = refl
count_of f g (x ∷ xs) = ap suc (count_of f g xs)

-- ---- a view of each, and of that a value

pub twice : {A B C : Type 0} (f : B → C) (g : A → B) (xs : List A) → map (λ x. f (g x)) xs ≡ map f (map g xs)
twice f g [] = refl
twice f g (x ∷ xs) = ap (λ ys. f (g x) ∷ ys) (twice f g xs)

pub of_views : {A B : Type 0} (f : B → Value) (g : A → B) (xs : List A) {old new : List ℕ} → AppendsValues (values_of (map (λ x. f (g x)) xs)) old new → AppendsValues (values_of (map f (map g xs))) old new
of_views f g xs {old = old} {new = new} v = subst (λ ys. AppendsValues (values_of ys) old new) (twice f g xs) v
