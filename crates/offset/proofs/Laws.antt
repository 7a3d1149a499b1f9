-- The laws of offsets, part by part. Where nothing has come `Z` completes it; an hour or a minute that is still open can be completed above 0, so
-- that a minus is allowed.
use Prim.Native.Nat.{ℕ, ◌≤◌}
use mathlib.Core.List.{List, [], ◌∷◌}
use mathlib.Core.Bool.{Bool, true, false, not}
use mathlib.Core.Path.{◌≡◌, refl, sym, ◌∙◌}
use native.Mathlib.Omega.{arith}
use lib.ListN.{length, get_or}
use lib.Dec.{ltb, eqb}
use borrow.Author.Tests.{eqb-true, ne_eqb}
use Rattle.types.specs.declared.Offset.{Offset}
use Rattle.types.specs.Sums.{zero_offset}
use Rattle.types.specs.Numbers.{number_of}
use Rattle.std.specs.declared.result.Result.{Result}
use Rattle.std.specs.declared.result.Result.TheVariants.{Ok, Err}
use Rattle.parser.specs.declared.Miss.{Miss}
use Rattle.parser.specs.declared.Miss.TheVariants as miss
use Rattle.parser.specs.declared.Got.{Got}
use Rattle.parser.specs.Read.{got_found, got_more}
use Rattle.parser.specs.Reading.{Found, no, got, stop, Says, lit, seq, after, alt, map, or, and}
use Rattle.parser.specs.Answer.{begun, Begins, verdict_of}
use Rattle.parser.specs.Digits.{lowest, highest, reach, digits_more, field}
use Rattle.parser.specs.Fields.{hour, signed}
use Rattle.parser.proofs.Fields.{true≢false, and_right}
use Rattle.parser.proofs.Places.{no≢got, Bounded, lit_fails}
use Rattle.parser.proofs.Hopeful.{Anything}
use Rattle.parser.proofs.Leaves.{From, above_zero, signed_at_end, signed_foreign}
use Rattle.parser.proofs.Says.{says_alt_first, says_alt_got, says_alt_no, says_map}
use Rattle.parser.proofs.Lawful.{In, byte, lawful_begins, TailIf, tail_where, map_tail, Item, map_item, tested_tail, seq_item}
use Rattle.parser.proofs.Unstopped.{Unstopped}
use Rattle.parser.proofs.Items.{lit_mark, signed_mark, or_item, preceded_item, field_item_in}
use Rattle.parser.proofs.TooFew.{Takes, fewer_takes, lit_takes, field_takes, map_takes, verify_takes, opt_takes, alt_takes, seq_takes, preceded_takes, signed_takes, TooFew, field_too_few, seq_too_few, then_too_few}
use Rattle.offset.specs.Rules.{allowed, offset_minute, offset_hour, offset_zulu, offset}

-- another byte than c
lit_other : (c : ℕ) (s : List ℕ) (at : ℕ) → eqb (get_or s at 0) c ≡ false → (lit c).reads s at ≡ no
unfolding lit
lit_other c s at e = rw (and_right (ltb at (length s)) e)

-- a byte that is a sign is no `Z`
sign_no_zulu : (s : List ℕ) (at : ℕ) (m : Bool) (n : ℕ) → signed.reads s at ≡ got m n → (lit 90).reads s at ≡ no
unfolding alt map
sign_no_zulu s at m n e = go (eqb (get_or s at 0) 90) refl
  where
    go : (z : Bool) → eqb (get_or s at 0) 90 ≡ z → (lit 90).reads s at ≡ no
    go true ez =
        let b = eqb-true (get_or s at 0) 90 ez in
        absurd (no≢got (sym (rw (lit_other 45 s at (rw b), lit_other 43 s at (rw b))) ∙ e))
    go false ez = lit_other 90 s at ez

-- so where an hour is cut short no `Z` can be read
hour_no_zulu : (s : List ℕ) (at : ℕ) → offset_hour.more s at ≡ true → (lit 90).reads s at ≡ no
unfolding offset_hour seq
hour_no_zulu s at h = go (signed.more s at) (signed.reads s at) refl refl h
  where
    go : (m : Bool) (f : Found Bool) → signed.more s at ≡ m → signed.reads s at ≡ f → or m (after f (λ a n. (seq hour (offset_minute a)).more s n)) ≡ true → (lit 90).reads s at ≡ no
    go true f em ef h = lit_fails 90 s at (signed_at_end s at em)
    go false no em ef h = absurd (true≢false (sym h))
    go false (stop r) em ef h = absurd (true≢false (sym h))
    go false (got m n) em ef h = sign_no_zulu s at m n ef

pub no_zulu : (s : List ℕ) (at : ℕ) → Says offset_hour s at no true → Says offset s at no true
unfolding offset offset_zulu
no_zulu s at h =
    let z : Says (lit 90) s at no ((lit 90).more s at) = record { found = sym (hour_no_zulu s at (sym h.more)); more = refl } in
    says_alt_no offset_hour s at offset_zulu true no ((lit 90).more s at) h (says_map (lit 90) s at (λ _. zero_offset) no ((lit 90).more s at) z)

-- whatever the first alternative finds is kept, unless nothing stands there
pub hour_kept : (s : List ℕ) (at : ℕ) (r : Result (Got Offset) Miss) → (r ≡ Err miss.Wrong → ⊥) → Says offset_hour s at (got_found r) (got_more r) → Says offset s at (got_found r) (got_more r)
unfolding offset
hour_kept s at (Ok g) n h = says_alt_got offset_hour s at offset_zulu g.value g.next g.more h
hour_kept s at (Err miss.Wrong) n h = absurd (n refl)
hour_kept s at (Err miss.Cut) n h = no_zulu s at h
hour_kept s at (Err (miss.Stopped why)) n h = says_alt_first offset_hour s at offset_zulu (stop (number_of why)) false refl h

-- ---- an hour or a minute can be completed above 0, so that a minus is allowed

allowed_minute : (minus : Bool) (h m : ℕ) → 1 ≤ m → allowed minus h m ≡ true
allowed_minute minus h m le = rw (ne_eqb m 0 (λ e. omega arith)) (nothing minus (eqb h 0))
  where
    nothing : (a b : Bool) → not (and a (and b false)) ≡ true
    nothing true true = refl
    nothing true false = refl
    nothing false b = refl

allowed_hour : (minus : Bool) (h m : ℕ) → 1 ≤ h → allowed minus h m ≡ true
allowed_hour minus h m le = rw (ne_eqb h 0 (λ e. omega arith)) (nothing minus)
  where
    nothing : (a : Bool) → not (and a false) ≡ true
    nothing true = refl
    nothing false = refl

-- ---- the laws of each part

-- what an offset takes beside digits: `+`, `-`, `:` and `Z`
abbrev pub bytes : List ℕ
bytes = 43 ∷ 45 ∷ 58 ∷ 90 ∷ []

-- the minute may be absent behind an hour that is not 0
minute_tail : (minus : Bool) (h : ℕ) → TailIf (From 1 23 h) bytes 2 Anything (offset_minute minus h)
unfolding offset_minute
minute_tail minus h =
    map_tail _ (tail_where (λ f. allowed_hour minus h 0 f.0)
    (tested_tail _ (preceded_item 58 refl refl (field_item_in 2 0 59 1 59 refl (above_zero 59 (omega arith)))) (λ m f. allowed_minute minus h m f.0)))

-- where the input ends `Z` is an offset, and behind a sign two digits complete an hour or a minute
pub offset_item : Item bytes (byte 90) 1 2 Anything offset
unfolding offset offset_hour offset_zulu
offset_item = or_item (signed_mark refl refl) (signed_foreign (In (byte 90)) (not_zulu 45 refl) (not_zulu 43 refl)) (λ minus. (seq_item (field_item_in 2 0 23 1 23 refl (above_zero 23 (omega arith))) (minute_tail minus)).lawful) (map_item _ (lit_mark 90 refl).item)
  where
    not_zulu : (c : ℕ) → eqb 90 c ≡ false → (b : ℕ) → In (byte 90) b → eqb b c ≡ false
    not_zulu c h b e = rw (eqb-true b 90 e) h

pub offset_bounded : Bounded offset
offset_bounded = offset_item.lawful.steady.bounded

-- what code says of the rule at the beginning is what a reader has to promise: an open offset has a continuation of at most two bytes that
-- changes the answer
pub offset_begins : (s : List ℕ) (f : Found Offset) (m : Bool) → Says offset s 0 f m → Begins 2 offset s (begun f) (verdict_of m)
offset_begins = lawful_begins offset_item.lawful

-- ---- behind a sign two bytes are needed

hour_too_few : TooFew 2 offset_hour
unfolding offset_hour
hour_too_few = then_too_few signed_takes (λ minus. seq_too_few (offset_minute minus) (field_too_few 1 0 23))

pub plus_too_few : (x : List ℕ) → length x ≤ 1 → offset.reads (43 ∷ x) 0 ≡ no
unfolding offset offset_zulu alt map
plus_too_few x h = rw (hour_too_few.nothing (43 ∷ x) 0 (omega arith), lit_other 90 (43 ∷ x) 0 refl)

pub plus_open : offset.more (43 ∷ []) 0 ≡ true
unfolding offset offset_hour alt seq map lit field digits_more reach highest lowest
plus_open = refl

-- ---- an offset has one byte at least, and none stops the reading

offset_takes : Takes 1 offset
unfolding offset offset_hour offset_minute offset_zulu
offset_takes =
    alt_takes
    (fewer_takes (omega arith) (seq_takes signed_takes (λ minus. seq_takes (field_takes 2 0 23) (λ h. map_takes _ (verify_takes _ (opt_takes (preceded_takes 58 (field_takes 2 0 59))))))))
    (map_takes _ (lit_takes 90))

pub offset_unstopped : Unstopped offset
offset_unstopped = offset_takes.unstopped
