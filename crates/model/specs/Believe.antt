-- What a master believes: the answers that some unit of document 01, in some run from fresh, gives to a request.
use Rattle.std.specs.Prelude.{ℕ, ◌+◌, ◌*◌, ◌-◌, ◌/◌, ◌%◌, min, List, [], ◌∷◌, ◌++◌, Bool, true, false, cond, not, ◌&&◌, ◌||◌, length, get_or, drop, eqb, leb, ltb}
use Rattle.chars.specs.Put.{part}
use Rattle.chars.specs.Word.{word_at}
use Rattle.chars.specs.Gather.{gather, up_from, every}
use Rattle.model.specs.Limits.{most_data, file_room, record_size, most_values}
use Rattle.model.specs.Frame.{Request}
use Rattle.model.specs.Config.{within, accumulator}
use Rattle.model.specs.Inputs.{chosen}
use Rattle.model.specs.Blocks.{known}
use Rattle.model.specs.History.{dumps}
use Rattle.model.specs.Line.{chunks}
use Rattle.model.specs.Ask.{good_time}

-- no data
unfoldable pub empty : List ℕ → Bool
empty ys = eqb (length ys) 0

-- the same characters
unfoldable pub same_chars : List ℕ → List ℕ → Bool
same_chars [] [] = true
same_chars [] (y ∷ ys) = false
same_chars (x ∷ xs) [] = false
same_chars (x ∷ xs) (y ∷ ys) = eqb x y && same_chars xs ys

-- n stands in a list
unfoldable pub stands : ℕ → List ℕ → Bool
stands n [] = false
stands n (y ∷ ys) = eqb n y || stands n ys

-- whole words, or values, that a reply takes: 255 words, 127 values (row 9)
unfoldable pub filled_by : ℕ → List ℕ → Bool
filled_by size ys = eqb (length ys % size) 0 && leb (length ys) most_data

-- ---- function 03/00 for the numbers ns (Scans 20 to 22; paper 5.4, 5.5)

-- what stands for the number asked at place i: the number and four characters
unfoldable pub entry_at : List ℕ → ℕ → List ℕ
entry_at ys i = part ys (5 * i) 5

-- a number that a unit can have equipped, and its own entry
unfoldable pub entry_for : List ℕ → List ℕ → ℕ → Bool
entry_for ns ys i = ltb (get_or ns i 0) 128 && eqb (get_or ys (5 * i) 0) (get_or ns i 0)

-- the same number is told with the same value
unfoldable pub agrees_with : List ℕ → List ℕ → ℕ → ℕ → Bool
agrees_with ns ys i j = not (eqb (get_or ns i 0) (get_or ns j 0)) || same_chars (entry_at ys i) (entry_at ys j)

-- number and value for each that was asked, in order, 102 at most
unfoldable pub tells_values : List ℕ → List ℕ → Bool
tells_values ns ys =
    eqb (length ys) (5 * length ns) && (leb (length ys) most_data
    && every (λ i. entry_for ns ys i && every (agrees_with ns ys i) (up_from 0 i)) (up_from 0 (length ns)))

-- NOP: of the numbers asked just those of some set, in order and with repeats, all over 7Fh among them; none only where the values would not fit
unfoldable pub tells_missing : List ℕ → List ℕ → Bool
tells_missing ns ys =
    same_chars ys (gather (λ n. cond (stands n ys) (n ∷ []) []) ns) && (every (λ n. ltb n 128 || stands n ys) ns
    && (not (empty ys) || ltb most_data (5 * length ns)))

-- ---- function 04 (History 3, 8, 9; paper 3.5.2)

-- the quantity in seven bits, the size of each record, and the records; a master has no configuration
unfoldable pub quantity_in : List ℕ → ℕ
quantity_in ys = get_or ys 0 0 % 128

unfoldable pub size_in : List ℕ → ℕ
size_in ys = (length ys - 1) / quantity_in ys

unfoldable pub records_told : List ℕ → List (List ℕ)
records_told ys = chunks (quantity_in ys) (size_in ys) (drop 1 ys)

-- a record's stamp is a time without milliseconds
unfoldable pub stamped : List ℕ → Bool
stamped r = good_time (part r 1 5 ++ (0 ∷ 0 ∷ []))

unfoldable pub all_stamped : List (List ℕ) → Bool
all_stamped [] = true
all_stamped (r ∷ rs) = stamped r && all_stamped rs

-- how many records of a size a reply can carry
unfoldable pub most_in : Bool → ℕ → ℕ
most_in dump size = cond dump ((most_data - 1) / size) 1

-- records of 1 to 16 values
unfoldable pub sized : ℕ → Bool
sized size = within (record_size 1) (record_size most_values) size && eqb (size % 2) 0

-- 00 alone; or no more records than fit and are held, and the flag only where they are just as many as fit and more may be held
unfoldable pub tells_records : Bool → List ℕ → Bool
tells_records dump ys =
    cond (eqb (quantity_in ys) 0) (eqb (length ys) 1 && eqb (get_or ys 0 0) 0)
    (eqb (length ys) (1 + quantity_in ys * size_in ys) && (sized (size_in ys) && (leb (quantity_in ys) (min file_room (most_in dump (size_in ys)))
    && ((ltb (get_or ys 0 0) 128 || (eqb (quantity_in ys) (most_in dump (size_in ys)) && ltb (quantity_in ys) file_room))
    && all_stamped (records_told ys)))))

-- ---- function 28h/30h: bias word, ordinal, quantity (Write 1, 11 to 13)

-- how long an ordinal's block is: the parameter block has some length to 512 in each unit
unfoldable pub longest_block : ℕ → ℕ
longest_block o = cond (eqb o 0x00) 16 (cond (eqb o 0x06) 512 256)

unfoldable pub shortest_block : ℕ → ℕ
shortest_block o = cond (eqb o 0x00) 16 (cond (eqb o 0x06) 0 256)

unfoldable pub end_of : List ℕ → ℕ
end_of body = word_at body 0 + get_or body 3 0

-- some unit has the part; every unit has it
unfoldable pub some_serve : List ℕ → Bool
some_serve body = known (get_or body 2 0) && leb (end_of body) (longest_block (get_or body 2 0))

unfoldable pub all_serve : List ℕ → Bool
all_serve body = known (get_or body 2 0) && leb (end_of body) (shortest_block (get_or body 2 0))

-- ---- a normal reply's data

-- 10h: a select echoes its number, an operate has none, 10h/21h is never carried out (Select 3, 6, 10)
unfoldable pub tells_control : Request → List ℕ → Bool
tells_control q ys = cond (within 0x10 0x11 q.command) (same_chars ys q.body) (eqb q.command 0x20 && empty ys)

-- 20h: 20h/11h echoes an accumulator; a WRITE is not answered so (Write 5, 18; row 5)
unfoldable pub tells_internal : Request → List ℕ → Bool
tells_internal q ys =
    cond (eqb q.command 0x11) (same_chars ys q.body && accumulator (get_or q.body 0 0)) (not (eqb q.command 0x30) && empty ys)

-- 28h: the quantity asked of a part that some unit has, a time (Write 12, 17)
unfoldable pub tells_return : Request → List ℕ → Bool
tells_return q ys =
    cond (eqb q.command 0x30) (eqb (length ys) (get_or q.body 3 0) && some_serve q.body) (good_time ys)

-- by the request that was sent
unfoldable pub could_tell : Request → List ℕ → Bool
could_tell q ys =
    cond (eqb q.function 0x00) (filled_by 2 ys && leb (length ys) (2 * length (chosen q.command)))
    (cond (eqb q.function 0x03) (cond (eqb q.command 0x80) (filled_by 4 ys) (tells_values q.body ys))
    (cond (eqb q.function 0x04) (tells_records (dumps q) ys)
    (cond (eqb q.function 0x0A) (filled_by 2 ys)
    (cond (eqb q.function 0x10) (tells_control q ys)
    (cond (eqb q.function 0x20) (tells_internal q ys)
    (tells_return q ys))))))

-- ---- a NOP's data

-- none but where stated; function 00, 10h/21h, 20h/00, a WRITE and 28h/31h are never refused so (Outcomes 2; rows 6 to 11)
unfoldable pub could_refuse : Request → List ℕ → Bool
could_refuse q ys =
    cond (eqb q.function 0x00) false
    (cond (eqb q.function 0x03) (cond (eqb q.command 0x80) (empty ys) (tells_missing q.body ys))
    (cond (eqb q.function 0x10) (not (eqb q.command 0x21) && empty ys)
    (cond (eqb q.function 0x20) (not (eqb q.command 0x00 || eqb q.command 0x30) && empty ys)
    (cond (eqb q.function 0x28) (eqb q.command 0x30 && (same_chars ys q.body && not (all_serve q.body)))
    (empty ys)))))
