-- Byte strings and the page table.
use Rattle.std.proofs.Common.{◌≡◌, ℕ, Bool, true, false, Some, None, List, refl, ap, if◌then◌else◌}
use Rattle.std.proofs.lemmas.Str.{IsUtf8-from_is_utf8, is_utf8-from_IsUtf8}
use Rattle.std.specs.Str.{is_utf8}
use Rattle.shredding.specs.Slot.{Value, truth, number, bytes}
use Rattle.shredding.specs.Shape.{text, binary}
use Rattle.pq_tree.specs.Physical.{byte_array}
use Rattle.pq_files.specs.Stored.{IsStored}
use Rattle.read_leaf.specs.Ranges.{StringsAreStored}
use Rattle.read_leaf.specs.Strings.{loaded_string}

some-same : (x y : Value) → Some x ≡ Some y → x ≡ y
some-same x y e = cc

bytes-same : (s t : List ℕ) → bytes s ≡ bytes t → s ≡ t
bytes-same s t e = cc

text-forth : (s : List ℕ) (v : Value) (b : Bool) → is_utf8 s ≡ b → (if b then Some (bytes s) else None) ≡ Some v → IsStored text byte_array v (bytes s)
text-forth s (bytes t) true e h =
    let same = bytes-same s t (some-same (bytes s) (bytes t) h) in
    (rw same at (IsUtf8-from_is_utf8 s e), ap bytes same)
text-forth s (truth b) true e h = absurd (cc)
text-forth s (number z) true e h = absurd (cc)
text-forth s v false e h = absurd (cc)

text-back : (s : List ℕ) (v : Value) → IsStored text byte_array v (bytes s) → loaded_string is_utf8 s ≡ Some v
text-back s (bytes t) h =
    let e = bytes-same s t h.1 in
    let u : is_utf8 t ≡ true = is_utf8-from_IsUtf8 t h.0 in
    rw (e, u) refl
text-back s (truth b) h = absurd h
text-back s (number z) h = absurd h

bytes-forth : (s : List ℕ) (v : Value) → Some (bytes s) ≡ Some v → IsStored binary byte_array v (bytes s)
bytes-forth s (bytes t) h = some-same (bytes s) (bytes t) h
bytes-forth s (truth b) h = absurd (cc)
bytes-forth s (number z) h = absurd (cc)

bytes-back : (s : List ℕ) (v : Value) → IsStored binary byte_array v (bytes s) → Some (bytes s) ≡ Some v
bytes-back s (bytes t) h = ap Some h
bytes-back s (truth b) h = absurd h
bytes-back s (number z) h = absurd h

pub strings-stored : StringsAreStored
strings-stored = record {
  texts = (λ s v. ((λ h. text-forth s v (is_utf8 s) refl h), (λ h. text-back s v h)));
  strings = (λ s v. ((λ h. bytes-forth s v h), (λ h. bytes-back s v h)));
}
