-- The figures that limit things, each once; Tied and src/lib.rt hold them to the constants of the thing they limit (Frames 19).
use Rattle.std.specs.Prelude.{ℕ, ◌+◌, ◌*◌, ◌-◌, ◌/◌, ◌^◌}

-- a master's frame has 8 to 136 characters (Frames 2)
abbrev pub shortest_frame : ℕ
shortest_frame = 8

abbrev pub longest_frame : ℕ
longest_frame = 136

-- a WRITE has three characters of data; before the longest frame it makes the longest stretch that is not damage (Request 5.2)
abbrev pub write_frame : ℕ
write_frame = shortest_frame + 3

abbrev pub longest_stretch : ℕ
longest_stretch = write_frame + longest_frame

-- a frame has at most 128 characters of data: the longest without the eight of the shortest (Frames 1)
abbrev pub most_asked : ℕ
most_asked = longest_frame - shortest_frame

-- a reply has a head of 7, up to 511 of data, two check characters, and so 9 to 520 (Frames 3, 4)
abbrev pub reply_head : ℕ
reply_head = 7

abbrev pub most_data : ℕ
most_data = 511

abbrev pub longest_reply : ℕ
longest_reply = reply_head + most_data + 2

-- a select and a write live for 5,000 ms (Select 4; Write 6)
abbrev pub hold_time : ℕ
hold_time = 5000

-- the port is silent after 60,000 ms (Frames 13)
abbrev pub silence_limit : ℕ
silence_limit = 60000

-- the sync point is at most 10,000 ms before the idle mark (Request 2.3, 2.5)
abbrev pub most_lag : ℕ
most_lag = 10000

-- a record has six characters and two for each of up to 16 values; a file holds 32 records (History 3, 4)
abbrev pub record_head : ℕ
record_head = 6

abbrev pub record_size : ℕ → ℕ
record_size v = record_head + 2 * v

abbrev pub most_values : ℕ
most_values = 16

abbrev pub longest_record : ℕ
longest_record = record_size most_values

abbrev pub file_room : ℕ
file_room = 32

-- a file's number of dropped records stays at 65,535 (Request 7.7)
abbrev pub most_dropped : ℕ
most_dropped = 65535

-- a reply carries at most as many records as are heads in what its data leave behind the quantity (History 8)
abbrev pub most_carried : ℕ
most_carried = (most_data - 1) / record_head

-- up to 16 calculations are means, each over 1, 2, 4 up to 256 samples (Request 4.2)
abbrev pub most_means : ℕ
most_means = 16

abbrev pub most_doublings : ℕ
most_doublings = 8

abbrev pub most_samples : ℕ
most_samples = 2 ^ most_doublings
