-- How the code keeps the bytes that a work-group has written: chunks of pages (own).
use Rattle.std.specs.Prelude.{◌≡◌, ◌≢◌, ℕ, zero, suc, ◌+◌, ◌-◌, ◌/◌, ◌%◌, ◌^◌, ◌<◌, ◌≤◌, ◌==◌, ◌⊎◌, if◌then◌else◌, List, [], ◌∷◌, length, take, slice_get, get_or, find, Option, None, Some}
use Rattle.std.specs.Option.{option_and_then}
use Rattle.std.specs.Int.{bit_at}
use Rattle.executor.specs.declared.page.Page.{Page}
use Rattle.executor.specs.Written.{laid}

-- how a store breaks off for want of memory: all is as before, or, where its bytes go on into the next page of 64, those
-- before that page are laid
abbrev pub BreaksOff : (ℕ → Option ℕ) → (ℕ → Option ℕ) → ℕ → List ℕ → Type 0
BreaksOff before after address bytes =
    (after ≡ before) ⊎ ((64 < address % 64 + length bytes) × (after ≡ laid before address (take (64 - address % 64) bytes)))

-- the byte at a place of a page, where its mask marks the place
abbrev pub page_byte : Page → ℕ → Option ℕ
page_byte page place = if bit_at page.mask place == 1 then slice_get page.bytes place else None

-- the byte at a place of blocks of one size, by the block of each number and by the byte at a place of one
abbrev pub in_blocks : {Block : Type 0} → (Block → ℕ → Option ℕ) → ℕ → (ℕ → Option Block) → ℕ → Option ℕ
in_blocks byte_of size block_at x = option_and_then (λ block. byte_of block (x % size)) (block_at (x / size))

-- a chunk of 128 pages: its number, a bit for each page that there is, 64 a word, where the page of each number stands among those that
-- there are, and these
pub record ChunkSeen : Type 0 where
  pub number : ℕ
  pub touched : List ℕ
  pub places : List ℕ
  pub pages : List Page

-- the page that stands at a place
abbrev pub page_at : List Page → ℕ → Page
page_at pages place = get_or pages place (record { mask = 0; bytes = [] })

-- the page of a number
abbrev pub page_of : ChunkSeen → ℕ → Option Page
page_of chunk index = Some (page_at chunk.pages (get_or chunk.places index 0))

-- the byte at a place of a chunk, whose pages are 64 bytes each
abbrev pub chunk_byte : ChunkSeen → ℕ → Option ℕ
chunk_byte chunk = in_blocks page_byte 64 (page_of chunk)

-- how many pages have no place of their own
abbrev pub unplaced : List ℕ → ℕ
unplaced [] = 0
unplaced (place ∷ places) = (if place == 0 then 1 else 0) + unplaced places

-- that the first page is empty, and that each other belongs to one number
pub record IsChunk (chunk : ChunkSeen) : Type 0 where
  pub long : length chunk.places ≡ 128
  pub count : length chunk.pages + unplaced chunk.places ≡ 129
  pub some : 0 < length chunk.pages
  pub empty : (x : ℕ) → page_byte (page_at chunk.pages 0) x ≡ None
  pub within : (i : ℕ) → get_or chunk.places i 0 < length chunk.pages
  pub apart : (i j : ℕ) → 0 < get_or chunk.places i 0 → get_or chunk.places i 0 ≡ get_or chunk.places j 0 → i ≡ j
  pub words : length chunk.touched ≡ 2
  pub marked : (i : ℕ) → i < 128 → bit_at (get_or chunk.touched (i / 64) 0) (i % 64) ≡ 0 → get_or chunk.places i 0 ≡ 0

-- the chunk of a number
abbrev pub chunk_of : List ChunkSeen → ℕ → Option ChunkSeen
chunk_of chunks number = find (λ chunk. chunk.number == number) chunks

-- the byte written at an address: the chunk of a number covers 2^13 addresses
abbrev pub byte_at : List ChunkSeen → ℕ → Option ℕ
byte_at chunks = in_blocks chunk_byte (2 ^ 13) (chunk_of chunks)

-- the number of the chunk at a place
abbrev pub number_at : List ChunkSeen → ℕ → ℕ
number_at [] place = 0
number_at (chunk ∷ chunks) zero = chunk.number
number_at (chunk ∷ chunks) (suc place) = number_at chunks place

-- that the numbers of some chunks ascend, from a floor on and below a limit
abbrev pub Rises : ℕ → ℕ → List ChunkSeen → Type 0
Rises floor limit [] = floor ≤ limit
Rises floor limit (chunk ∷ chunks) = (floor ≤ chunk.number) × Rises (chunk.number + 1) limit chunks

-- that the chunk of a number stands at a place
abbrev pub StandsAt : List ChunkSeen → ℕ → ℕ → Type 0
StandsAt chunks place number = (place < length chunks) × (number_at chunks place ≡ number)

-- where the page of a number stands in the chunk at a place
abbrev pub page_place : List ChunkSeen → ℕ → ℕ → ℕ
page_place [] place index = 0
page_place (chunk ∷ chunks) zero index = get_or chunk.places index 0
page_place (chunk ∷ chunks) (suc place) index = page_place chunks place index

-- that the chunk of an address stands at a place, and its page, which was made, at a place in that
pub record IsPage (chunks : List ChunkSeen) (address chunk page : ℕ) : Type 0 where
  pub stands : StandsAt chunks chunk (address / 2 ^ 13)
  pub is : page_place chunks chunk (address % 2 ^ 13 / 64) ≡ page
  pub own : 0 < page

-- where the chunk of a number stands, if it is there
abbrev pub PlaceOf : List ChunkSeen → ℕ → Option ℕ → Type 0
PlaceOf chunks number None = (place : ℕ) → place < length chunks → number_at chunks place ≢ number
PlaceOf chunks number (Some place) = StandsAt chunks place number

-- that there is no chunk of a number, nor of the next
abbrev pub IsApart : List ChunkSeen → ℕ → Type 0
IsApart chunks number = PlaceOf chunks number None × PlaceOf chunks (number + 1) None

-- that all chunks before a place have lesser numbers, and none from it on
pub record Parts (chunks : List ChunkSeen) (number place : ℕ) : Type 0 where
  pub within : place ≤ length chunks
  pub before : (k : ℕ) → k < place → number_at chunks k < number
  pub behind : (k : ℕ) → place ≤ k → k < length chunks → number ≤ number_at chunks k

-- that numbers ascend from one on and below a limit that few reach, and that the last chunk at hand is the one of its number
pub record IsWritten (chunks : List ChunkSeen) (last last_number begin limit : ℕ) : Type 0 where
  pub rises : Rises 0 limit chunks
  pub begins : (k : ℕ) → k < length chunks → begin ≤ number_at chunks k
  pub few : limit ≤ 2 ^ 51
  pub last_is : (last_number < 2 ^ 51) → StandsAt chunks last last_number
