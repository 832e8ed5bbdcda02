-- A reader gives all the records of its bytes, one after the other.
use Rattle.std.proofs.Common.{◌≡◌, ℕ, suc, zero, ◌+◌, ◌<◌, ◌⊎◌, List, [], ◌∷◌, ◌++◌, length, Option, Some, None, true, false, Bool, if◌then◌else◌, sym, ap, ◌∙◌, refl, arith, add-one, inl, inr}
use Rattle.csv.specs.Machine.{Read, next_record, step, is_end, ends_at_end, fields_after, field_after}
use Rattle.std.proofs.lemmas.Bool.{false≢true}
use Rattle.std.specs.Prelude.{IsSome}
use Rattle.std.specs.Borrow.{Bor}
use Rattle.csv.specs.Reading.{records_from, records_next, Reached, ReadRecord, default_config, took_first, reader_state}
use Rattle.csv.specs.declared.reader.Reader.{Reader}
use Rattle.csv.proofs.ReadFacts.{rows-more, rows-end}
use Rattle.csv_tables.specs.Records.{IsReading, IsNext, records_left, records_from_source, source}
use Rattle.csv.specs.declared.parser.Config.{Config}
use Rattle.csv.specs.declared.parser.State.{State}
use Rattle.csv.specs.declared.parser.State.TheVariants as st

same-read : (a r : Read) → Some a ≡ Some r → a ≡ r
same-read a r e = cc

-- a record takes a byte, or none was left
abbrev Shorter : List ℕ → Read → Type 0
Shorter xs r = (length r.2 < length xs) ⊎ ((xs ≡ []) × (r.1 ≡ st.StartRecord) × (r.2 ≡ []))

at-end : (b : Bool) (fs : List (List ℕ)) (r : Read) → (if b then Some (fs, st.StartRecord, []) else None) ≡ Some r → Shorter [] r
at-end true fs r e = let i = same-read (fs, st.StartRecord, []) r e in inr (refl, sym (ap (λ (q : Read). q.1) i), sym (ap (λ (q : Read). q.2) i))
at-end false fs r e = cc

longer : (c : ℕ) (rest : List ℕ) (r : Read) → Shorter rest r → Shorter (c ∷ rest) r
longer c rest r (inl h) = inl (omega arith)
longer c rest r (inr h) = inl (let z : length r.2 ≡ 0 = ap length h.2 in omega arith)

in-record : (b : Bool) (a : Read) (o : Option Read) (c : ℕ) (rest : List ℕ) (r : Read) → a.2 ≡ rest → (o ≡ Some r → Shorter rest r)
    → (if b then Some a else o) ≡ Some r → Shorter (c ∷ rest) r
in-record true a o c rest r h go e =
    let i = same-read a r e in
    let z : length r.2 ≡ length rest = ap length (sym (ap (λ (q : Read). q.2) i) ∙ h) in inl (omega arith)
in-record false a o c rest r h go e = longer c rest r (go e)

next-shorter : (cfg : Config) (s : State) (f : List (List ℕ)) (p : List ℕ) (xs : List ℕ) (r : Read) → next_record cfg s f p xs ≡ Some r → Shorter xs r
unfolding next_record
next-shorter cfg s f p [] r e = at-end (ends_at_end s) (f ++ (p ∷ [])) r e
next-shorter cfg s f p (c ∷ rest) r e =
    in-record (is_end (step cfg s c).1) (fields_after (step cfg s c).1 f p, (step cfg s c).0, rest)
    (next_record cfg (step cfg s c).0 (fields_after (step cfg s c).1 f p) (field_after (step cfg s c).1 c p) rest) c rest r refl
    (λ e2. next-shorter cfg (step cfg s c).0 (fields_after (step cfg s c).1 f p) (field_after (step cfg s c).1 c p) rest r e2) e

-- as many records as there may be
abbrev Enough : ℕ → State → List ℕ → Type 0
Enough n s xs = (length xs < n) ⊎ ((xs ≡ []) × (s ≡ st.StartRecord))

none-left : (cfg : Config) (n : ℕ) (s : State) (xs : List ℕ) → xs ≡ [] → s ≡ st.StartRecord → records_from cfg n s xs ≡ []
unfolding records_from next_record
none-left cfg zero s xs nothing start = refl
none-left cfg (suc n) s xs nothing start = rw (nothing, start) refl

at-zero : (cfg : Config) (n : ℕ) (s : State) (xs : List ℕ) → Enough 0 s xs → records_from cfg n s xs ≡ []
at-zero cfg n s xs (inl h) = absurd (omega arith)
at-zero cfg n s xs (inr h) = none-left cfg n s xs h.0 h.1

enough-next : (n : ℕ) (s : State) (xs : List ℕ) (r : Read) → Enough (suc n) s xs → Shorter xs r → Enough n r.1 r.2
enough-next n s xs r e (inr h) = inr (h.2, h.1)
enough-next n s xs r (inl e) (inl h) = inl (omega arith)
enough-next n s xs r (inr e) (inl h) = absurd (let z : length xs ≡ 0 = ap length e.0 in omega arith)

-- the next record by both counts
first-same : (n m : ℕ) (s : State) (xs : List ℕ) (cfg : Config) (o : Option Read) → next_record cfg s [] [] xs ≡ o
    → ((r : Read) → next_record cfg s [] [] xs ≡ Some r → records_from cfg n r.1 r.2 ≡ records_from cfg m r.1 r.2)
    → records_next (records_from cfg n) o ≡ records_next (records_from cfg m) o
first-same n m s xs cfg None is go = refl
first-same n m s xs cfg (Some r) is go = ap (λ rest. r.0 ∷ rest) (go r is)

-- the number of records that are asked for doesn't matter where it is enough
pub same-records : (cfg : Config) (n m : ℕ) (s : State) (xs : List ℕ) → Enough n s xs → Enough m s xs → records_from cfg n s xs ≡ records_from cfg m s xs
unfolding records_from
same-records cfg zero m s xs a b = sym (at-zero cfg m s xs a)
same-records cfg (suc n) zero s xs a b = at-zero cfg (suc n) s xs b
same-records cfg (suc n) (suc m) s xs a b =
    first-same n m s xs cfg (next_record cfg s [] [] xs) refl
    (λ r is. let short = next-shorter cfg s [] [] xs r is in same-records cfg n m r.1 r.2 (enough-next n s xs r a short) (enough-next m s xs r b short))

-- the records that are left, by the next one
pub left-more : (cfg : Config) (s : State) (xs : List ℕ) (r : Read) → next_record cfg s [] [] xs ≡ Some r
    → records_from cfg (length xs + 1) s xs ≡ r.0 ∷ records_from cfg (length r.2 + 1) r.1 r.2
unfolding records_from
left-more cfg s xs r is =
    let short = next-shorter cfg s [] [] xs r is in
    let now : Enough (length xs) r.1 r.2 = enough-next (length xs) s xs r (inl (omega arith)) short in
    let later : Enough (length r.2 + 1) r.1 r.2 = inl (omega arith) in
    rw (add-one, is) (ap (λ rest. r.0 ∷ rest) (same-records cfg (length xs) (length r.2 + 1) r.1 r.2 now later))

pub left-none : (cfg : Config) (s : State) (xs : List ℕ) → next_record cfg s [] [] xs ≡ None → records_from cfg (length xs + 1) s xs ≡ []
unfolding records_from
left-none cfg s xs is = rw (add-one, is) refl

-- what one read of a record says of the records that are left
abbrev rem : Bor (List ℕ) → Option (List ℕ)
rem s = Some s.now

known : (o : Option (List ℕ)) → IsSome o → (xs : List ℕ) × (o ≡ Some xs)
known None is = absurd (false≢true is)
known (Some xs) is = (xs, refl)

reads-more : (a b : Reader (Bor (List ℕ))) (f : List (List ℕ)) → IsReading a → took_first b ≡ true → ReadRecord rem a b true f
    → IsReading b × (records_left a ≡ f ∷ records_left b)
unfolding IsReading records_left Reached
reads-more a b f (trim, ready, config, some) first read =
    let from = known (source a) some in
    let more = rows-more rem a b f default_config (reader_state a) from.0 from.0 [] config from.1 (refl, refl) read in
    let at = more.2 in
    let left = left-more default_config (reader_state a) from.0 at.0 at.1 in
    let behind : records_from_source (reader_state b) (source b) ≡ records_from default_config (length at.0.2 + 1) at.0.1 at.0.2 = rw (more.1, at.3.0, at.3.1) refl in
    ((read.3 ∙ trim, inl first, read.2 ∙ config, rw more.1 refl), rw (from.1, at.2, behind) left)

reads-none : (a b : Reader (Bor (List ℕ))) (f : List (List ℕ)) → IsReading a → ReadRecord rem a b false f → records_left a ≡ []
unfolding IsReading records_left
reads-none a b f (trim, ready, config, some) read =
    let from = known (source a) some in
    rw from.1 (left-none default_config (reader_state a) from.0 (rows-end rem a b f default_config from.0 config from.1 read))

pub next-is : (found : Bool) (a b : Reader (Bor (List ℕ))) (f : List (List ℕ)) → IsReading a → took_first b ≡ true → ReadRecord rem a b found f → IsNext found a f b
next-is true a b f reading first read = reads-more a b f reading first read
next-is false a b f reading first read = reads-none a b f reading read
