-- A side of an interval is read back from its spelling, where `/` stands behind it and where nothing does; and which side stands at a place is
-- told by what is read there.
use Prim.Native.Nat.{ℕ}
use mathlib.Core.List.{List, [], ◌∷◌, ◌++◌}
use mathlib.Core.Bool.{Bool, true}
use mathlib.Core.Path.{◌≡◌, refl, ◌∙◌}
use lib.Dec.{eqb}
use Rattle.types.specs.declared.Choices.{Choices}
use Rattle.types.specs.declared.DateTime.{DateTime}
use Rattle.types.specs.declared.Duration.{Duration}
use Rattle.parser.specs.Reading.{Reader, lit}
use Rattle.parser.proofs.Places.{from_no, from_stop, picked, made}
use Rattle.parser.proofs.Lawful.{Outside, ItemOr}
use Rattle.datetime.specs.Rules.{date_time}
use Rattle.datetime.proofs.Laws.{datetime_item}
use Rattle.duration.specs.Rules.{duration}
use Rattle.duration.proofs.Laws.{duration_item_lem}
use Rattle.interval.specs.Rules.{no_form_fails, tried, stamp, sides}
use Rattle.interval.proofs.Apart.{elsewhere, stamp_alone, duration_alone}
use Rattle.writing.specs.Spelling.{date_time_spelling, duration_spelling}
use Rattle.writing.proofs.Texts.{ReadAs, Refuses, lit_reads, foreign_reads, seq_reads, seq_refuses, seq_refuses_behind, map_reads, map_refuses}
use Rattle.writing.proofs.Yields.{Yields, seq_yields, map_yields, anything}
use Rattle.datetime_writer.specs.Ranges.{date_time_given}
use Rattle.datetime_writer.proofs.Laws.{date_time_reads_lem, date_time_yields}
use Rattle.duration_writer.specs.Ranges.{duration_given}
use Rattle.duration_writer.proofs.Laws.{duration_reads_lem}

-- ---- what is tried: a value is kept

module _ {A : Type 0} {p : Reader A} where
  tried_reads : {t x : List ℕ} {v : A} → ReadAs p t x v → ReadAs (tried p) t x v
  unfolding tried
  tried_reads h = record { reads = λ a. rw (h.reads a) }

  tried_refuses : {x : List ℕ} → Refuses p x → Refuses (tried p) x
  unfolding tried
  tried_refuses h = record { finds = λ a. rw (h.finds a) }

  tried_yields : {F : A → Type 0} → Yields F p → Yields F (tried p)
  unfolding tried
  tried_yields h = record { fact = λ s at b n. made p no_form_fails s at from_no (λ r _. picked from_no from_stop (eqb r 1)) (λ a m e f. h.fact s at b n (e ∙ f)) }

-- ---- a date-time, and a duration

module _ (c : Choices) where
  pub stamp_last : (x : DateTime) → date_time_given c x ≡ true → ReadAs (stamp c) (date_time_spelling x) [] x
  unfolding stamp
  stamp_last x e = tried_reads (date_time_reads_lem c x e)

  pub stamp_first_lem : (x : DateTime) (y : List ℕ) → date_time_given c x ≡ true → ReadAs (date_time c) (date_time_spelling x) (47 ∷ y) x
  stamp_first_lem x y e = foreign_reads (datetime_item c).lawful.steady.foreign refl (date_time_reads_lem c x e)

  pub stamp_reads : {t x : List ℕ} {v : DateTime} → ReadAs (date_time c) t x v → ReadAs (stamp c) t x v
  unfolding stamp
  stamp_reads h = tried_reads h

  pub stamp_yields : Yields (λ x. date_time_given c x ≡ true) (stamp c)
  unfolding stamp
  stamp_yields = tried_yields (date_time_yields c)

  -- where the one is read the other is not
  pub no_duration : {t x : List ℕ} {v : DateTime} → ReadAs (date_time c) t x v → Refuses duration (t ++ x)
  no_duration {v = v} h = record { finds = λ a. stamp_alone c _ _ v _ (h.reads a) }

  pub no_stamp : {t x : List ℕ} {v : Duration} → ReadAs duration t x v → Refuses (stamp c) (t ++ x)
  unfolding stamp
  no_stamp {v = v} h = tried_refuses (record { finds = λ a. duration_alone c _ _ v _ (h.reads a) })

pub duration_first_lem : (d : Duration) (y : List ℕ) → duration_given d ≡ true → ReadAs duration (duration_spelling d) (47 ∷ y) d
duration_first_lem d y e = foreign_reads duration_item_lem.lawful.steady.foreign refl (duration_reads_lem d e)

-- and neither is read where a byte stands that it never takes
pub not_begun : {W : Type 0} {A : Type 0} {l : List ℕ} {Y : ℕ → Bool} {j k : ℕ} {F : A → Type 0} {p : Reader A} → ItemOr W l Y j k F p → (c : ℕ) → Outside l c → {t x : List ℕ} {v : A} → ReadAs p t x v → Refuses (lit c) (t ++ x)
not_begun i c o {v = v} h = record { finds = λ a. elsewhere i c o _ _ v _ (h.reads a) }

-- ---- two sides

module _ {A B C : Type 0} (f : A → B → C) {p : Reader A} where
  pub sides_read : {q : Reader B} {t u x : List ℕ} {v : A} {w : B} → ReadAs p t (47 ∷ u ++ x) v → ReadAs q u x w → ReadAs (sides f p q) (t ++ 47 ∷ u) x (f v w)
  sides_read h k = seq_reads _ h (seq_reads _ (lit_reads 47 _) (map_reads _ k))

  pub sides_yield : {q : Reader B} {E : A → Type 0} {F : B → Type 0} {G : C → Type 0} → ((a : A) (b : B) → E a → F b → G (f a b)) → Yields E p → Yields F q → Yields G (sides f p q)
  sides_yield i h k = seq_yields _ h (λ a e. seq_yields _ (anything (lit 47)) (λ _ _. map_yields _ (λ b e'. i a b e e') k))

  -- the second is not there
  pub no_second : {q : Reader B} {t x : List ℕ} {v : A} → ReadAs p t (47 ∷ x) v → Refuses q x → Refuses (sides f p q) (t ++ 47 ∷ x)
  no_second h k = seq_refuses_behind _ h (seq_refuses_behind _ (lit_reads 47 _) (map_refuses _ k))

  -- nor is the first, or the `/`
  module _ (q : Reader B) where
    pub no_first : {x : List ℕ} → Refuses p x → Refuses (sides f p q) x
    no_first h = seq_refuses _ h

    pub no_slash : {t x : List ℕ} {v : A} → ReadAs p t x v → Refuses (lit 47) x → Refuses (sides f p q) (t ++ x)
    no_slash h k = seq_refuses_behind _ h (seq_refuses _ k)
