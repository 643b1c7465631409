-- What a link in memory tells.
use Rattle.std.specs.Prelude.{ℕ, List, Bool, Some, take, map}
use Rattle.cf_http.specs.Links.{LinkRead, LinkTells, read_at}
use Rattle.cf_http_links.specs.declared.memory.MemLink.{MemLink}
use Rattle.cf_http_links.specs.declared.memory.Passed.{Passed}

-- all bytes that it gives
abbrev pub bytes_of : MemLink → List ℕ
bytes_of l = l.bytes.items

abbrev pub received_of : MemLink → List ℕ
received_of l = take l.place l.bytes.items

abbrev pub sent_of : MemLink → List ℕ
sent_of l = l.sent.items

abbrev pub ended_of : MemLink → Bool
ended_of l = l.ended

abbrev pub passed_of : MemLink → List Passed
passed_of l = l.reads.items

-- a read, by what had passed when it was asked
abbrev pub read_by : List ℕ → List ℕ → Passed → LinkRead
read_by bytes sent passed = read_at (Some (take passed.came bytes)) (Some (take passed.sent sent))

abbrev pub reads_of : MemLink → List LinkRead
reads_of l = map (read_by l.bytes.items l.sent.items) l.reads.items

abbrev pub tells_of : MemLink → LinkTells
tells_of l = record {
  input = record {
    received = Some (received_of l);
    ended = ended_of l;
    reads = Some (reads_of l);
    faults = l.read_faults;
  };
  output = record { sent = Some (sent_of l); faults = l.write_faults };
}
