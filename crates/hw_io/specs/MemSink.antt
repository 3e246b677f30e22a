-- A sink in memory, this project's. It has room for a number of bytes, takes at most so many in a call, and fails in the calls that it is told to.
use Rattle.std.specs.Prelude.{ℕ, ◌-◌, List, take, min, length, vec_len}
use Rattle.hw_io.specs.declared.mem_sink.MemSink.{MemSink}

-- the bytes that were written
abbrev pub written_of : MemSink → List ℕ
written_of sink = take sink.filled sink.bytes.items

-- how many bytes it can take in all
abbrev pub room_of : MemSink → ℕ
room_of sink = vec_len sink.bytes

-- how many bytes it can still take
abbrev pub free_of : MemSink → ℕ
free_of sink = vec_len sink.bytes - sink.filled

-- how many bytes it takes in one call at most
abbrev pub most_of : MemSink → ℕ
most_of sink = sink.most

-- the numbers of the calls that are to fail, counted from 1
abbrev pub fails_of : MemSink → List ℕ
fails_of sink = sink.fails.items

abbrev pub calls_of : MemSink → ℕ
calls_of sink = sink.calls

abbrev pub faults_of : MemSink → ℕ
faults_of sink = sink.faults

-- how many of these bytes the next call takes, where it doesn't fail
abbrev pub taken_of : MemSink → List ℕ → ℕ
taken_of sink bytes = min (length bytes) (min sink.most (free_of sink))
