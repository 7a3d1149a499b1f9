-- A record that is put among those of any kind is read, and written, as it was before.
use Prim.Native.Nat.{ℕ}
use mathlib.Core.List.{List}
use mathlib.Core.Path.{◌≡◌}
use Rattle.parser.specs.Reading.{Found, no, got, stop, Reader, map, map_found}
use Rattle.parser.proofs.Places.{no≢got, stop≢got, got_value, got_place}
use Rattle.kinds.proofs.As.{Injective}
use Rattle.std.specs.Prelude.{Result}
use Rattle.writing.specs.declared.Unwritten.{Unwritten}
use Rattle.writing.specs.Writing.{Readable, Writes}

module _ {A B : Type 0} (f : A → B) (once : Injective f) {p : Reader A} {a : A} where
  pub readable_as : Readable p a → Readable (map f p) (f a)
  unfolding map
  readable_as r = record { bytes = r.bytes; count = r.count; reads = rw r.reads }

  pub readable_back : Readable (map f p) (f a) → Readable p a
  unfolding map
  readable_back r = record { bytes = r.bytes; count = r.count; reads = go (p.reads r.bytes 0) r.reads }
    where
      go : (x : Found A) → map_found f x ≡ got (f a) r.count → x ≡ got a r.count
      go no e = absurd (no≢got e)
      go (stop n) e = absurd (stop≢got e)
      go (got b n) e = rw (once b a (got_value e), got_place e)

  pub writes_as : {t old new : List ℕ} {w : Result ℕ Unwritten} → Writes p a t old new w → Writes (map f p) (f a) t old new w
  writes_as h = record { unread = λ z. h.unread (λ r. z (readable_as r)); short = λ r. h.short (readable_back r); fits = λ r. h.fits (readable_back r) }
