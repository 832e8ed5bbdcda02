-- Reading a whole file and writing a whole text.
use Rattle.std.specs.Prelude.{◌+◌, ◌≡◌, ℕ, ◌<◌, ◌≤◌, ◌++◌, Bool, true, false, List, length, Option, None, Some, Result, Ok, Err, ⊤}
use Rattle.std.specs.Io.KnownBytes.{Appends, Consumes, IsAtEnd}
use Rattle.gsql_io.specs.Outside.{Rose}
use Rattle.gsql_io.specs.declared.whole.ReadRefusal.{ReadRefusal}
use Rattle.gsql_io.specs.declared.whole.ReadRefusal.TheVariants.{Failed, TooLong, OutOfMemory}

-- These bytes are the content, where that is told.
abbrev pub IsWholeOf : Option (List ℕ) → List ℕ → Type 0
IsWholeOf None bytes = ⊤
IsWholeOf (Some content) bytes = bytes ≡ content

-- The content has more bytes than the limit, where it is told.
abbrev pub IsLonger : Option (List ℕ) → ℕ → Type 0
IsLonger None limit = ⊤
IsLonger (Some content) limit = limit < length content

-- What the answer says of the content that was to be read.
abbrev pub IsReadOf : Option (List ℕ) → ℕ → Result (List ℕ) ReadRefusal → Type 0
-- The bytes are all of it, and at most `limit`.
IsReadOf content limit (Ok bytes) = IsWholeOf content bytes × (length bytes ≤ limit)
-- It has more than `limit` bytes.
IsReadOf content limit (Err TooLong) = IsLonger content limit
-- A call may fail, and memory run out, at any content.
IsReadOf content limit (Err Failed) = ⊤
IsReadOf content limit (Err OutOfMemory) = ⊤

-- Some bytes were taken from the front of the content, and the rest is left.
abbrev pub TakesSome : Option (List ℕ) → Option (List ℕ) → Type 0
TakesSome content left = (front : List ℕ) × Consumes content left front

-- One byte more than the limit was taken from the front of the content, and the rest is left.
abbrev pub TakesOneMore : Option (List ℕ) → Option (List ℕ) → ℕ → Type 0
TakesOneMore content left limit = (front : List ℕ) × Consumes content left front × (length front ≡ limit + 1)

-- What is left of the content after the answer.
abbrev pub Leaves : Option (List ℕ) → Option (List ℕ) → ℕ → Result (List ℕ) ReadRefusal → Type 0
-- Nothing: the bytes were all of it.
Leaves content left limit (Ok bytes) = Consumes content left bytes × IsAtEnd left
-- What lies behind `limit + 1` bytes.
Leaves content left limit (Err TooLong) = TakesOneMore content left limit
-- What lies behind the bytes that were read so far. After a `begin` that failed that is nothing.
Leaves content left limit (Err Failed) = TakesSome content left
Leaves content left limit (Err OutOfMemory) = TakesSome content left

-- The answer is that a call failed.
abbrev pub is_failed : Result (List ℕ) ReadRefusal → Bool
is_failed (Ok bytes) = false
is_failed (Err Failed) = true
is_failed (Err TooLong) = false
is_failed (Err OutOfMemory) = false

-- What the count of faults did: it rose where a call failed, and else stayed.
abbrev pub Counts : ℕ → ℕ → Result (List ℕ) ReadRefusal → Type 0
Counts before after (Ok bytes) = after ≡ before
Counts before after (Err Failed) = Rose before after
Counts before after (Err TooLong) = after ≡ before
Counts before after (Err OutOfMemory) = after ≡ before

-- A front of the bytes was written, which may be none of them or all.
abbrev pub WritesPrefix : Option (List ℕ) → Option (List ℕ) → List ℕ → Type 0
WritesPrefix old new bytes = (front : List ℕ) × (back : List ℕ) × (bytes ≡ front ++ back) × Appends old new front
