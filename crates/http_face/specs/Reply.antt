-- The bytes of a reply (RFC 9112 section 4, RFC 9110).
use Rattle.std.specs.Prelude.{◌≡◌, ◌<◌, ◌^◌, ℕ, List, [], ◌++◌, length, min, IsSome, Option, Some, None, unwrap_or, option_map, codes, decimal}
use Rattle.atom_values.specs.Counts.{counter_limit}
use Rattle.http.specs.StatusCode.{reason_phrase}
use Rattle.http_face.specs.declared.fault.RequestFault.{RequestFault}
use Rattle.http_face.specs.declared.fault.RequestFault.TheVariants as fault
use Rattle.http_face.specs.declared.reply.Allow.{Allow}
use Rattle.http_face.specs.declared.reply.Allow.TheVariants.{OfFeed, OfArchive, OfMember}
use Rattle.http_face.specs.declared.reply.Body.{Body}
use Rattle.http_face.specs.declared.reply.Body.TheVariants.{Made, Fixed}
use Rattle.http_face.specs.declared.reply.Line7.{Line7}
use Rattle.http_face.specs.declared.reply.Line7.TheVariants as line
use Rattle.http_face.specs.declared.reply.Media.{Media}
use Rattle.http_face.specs.declared.reply.Media.TheVariants.{Feed, Entry, Service, Plain}
use Rattle.http_face.specs.declared.reply.Reply.{Reply}

-- the value of `Content-Type`
abbrev pub media_text : Media → List ℕ
media_text Feed = codes "application/atom+xml;type=feed"
media_text Entry = codes "application/atom+xml;type=entry"
media_text Service = codes "application/atomsvc+xml"
media_text Plain = codes "text/plain;charset=utf-8"

-- the value of `Allow`
abbrev pub allow_text : Allow → List ℕ
allow_text OfFeed = codes "GET, POST"
allow_text OfArchive = codes "GET"
allow_text OfMember = codes "GET, PUT, DELETE"

abbrev pub line_text : Line7 → List ℕ
line_text line.BadHead = codes "bad head\n"
line_text line.HeadTooLarge = codes "head too large\n"
line_text line.EndedEarly = codes "ended early\n"
line_text line.NoLength = codes "no length\n"
line_text line.TwoLengths = codes "two lengths\n"
line_text line.BodyTooLarge = codes "body too large\n"
line_text line.NotImplemented = codes "not implemented\n"
line_text line.NotFound = codes "not found\n"
line_text line.NotAllowed = codes "not allowed\n"
line_text line.Gone = codes "gone\n"
line_text line.NotEntryType = codes "not an entry type\n"
line_text line.Draft = codes "draft\n"
line_text line.OtherId = codes "other id\n"
line_text line.Clock = codes "clock\n"
line_text line.EntryTooLarge = codes "entry too large\n"
line_text line.Disk = codes "disk\n"
line_text line.Changed = codes "changed\n"
line_text line.Deleted = codes "deleted\n"
line_text line.NoMemory = codes "no memory\n"

abbrev pub body_text : Body → List ℕ
body_text (Made bytes) = bytes
body_text (Fixed line) = line_text line

-- a reply whose body is one of the fixed lines
abbrev pub line_reply : ℕ → Line7 → Reply
line_reply status line =
    record { status = status; media = Plain; location = None; allow = None; body = Fixed line }

-- a reply that is a document
abbrev pub document_reply : Media → List ℕ → Reply
document_reply kind document =
    record { status = 200; media = kind; location = None; allow = None; body = Made document }

-- the reply to a method that the target doesn't allow (RFC 9110 section 15.5.6)
abbrev pub not_allowed : Allow → Reply
not_allowed allow =
    record { status = 405; media = Plain; location = None; allow = Some allow; body = Fixed line.NotAllowed }

-- the reply to a method that HTTP doesn't name (RFC 9110 section 15.6.2)
abbrev pub not_implemented : Reply
not_implemented = line_reply 501 line.NotImplemented

abbrev pub not_found : Reply
not_found = line_reply 404 line.NotFound

-- the replies that have another cause than the request and what is held
abbrev pub no_memory : Reply
no_memory = line_reply 503 line.NoMemory

abbrev pub disk_fault : Reply
disk_fault = line_reply 500 line.Disk

abbrev pub disk_changed : Reply
disk_changed = line_reply 500 line.Changed

-- The reply to bytes that are no request (RFC 9110 section 15.5, RFC 6585 section 5). A failed connection gets none.
abbrev pub fault_reply : RequestFault → Option Reply
fault_reply fault.ConnFault = None
fault_reply fault.BadHead = Some (line_reply 400 line.BadHead)
fault_reply fault.HeadTooLarge = Some (line_reply 431 line.HeadTooLarge)
fault_reply (fault.EndedEarly read) = Some (line_reply 400 line.EndedEarly)
fault_reply fault.NoLength = Some (line_reply 411 line.NoLength)
fault_reply fault.TwoLengths = Some (line_reply 400 line.TwoLengths)
fault_reply (fault.BodyTooLarge length) = Some (line_reply 413 line.BodyTooLarge)
fault_reply fault.NoMemory = Some no_memory

-- a line of the head
abbrev pub header : List ℕ → List ℕ → List ℕ
header name value = name ++ (codes ": " ++ (value ++ codes "\r\n"))

abbrev pub optional_header : List ℕ → Option (List ℕ) → List ℕ
optional_header name None = []
optional_header name (Some value) = header name value

-- the status line
abbrev pub status_line : ℕ → List ℕ
status_line status =
    codes "HTTP/1.1 " ++ (decimal status ++ (codes " " ++ (unwrap_or (reason_phrase status) [] ++ codes "\r\n")))

-- the fields of the head, and the empty line
abbrev pub fields_text : Reply → List ℕ
fields_text reply =
    header (codes "Content-Type") (media_text reply.media)
    ++ (header (codes "Content-Length") (decimal (length (body_text reply.body)))
    ++ (optional_header (codes "Location") reply.location
    ++ (optional_header (codes "Allow") (option_map allow_text reply.allow)
    ++ (header (codes "Connection") (codes "close")
    ++ codes "\r\n"))))

-- the rule of a reply
abbrev pub IsReply : Reply → Type 0
IsReply reply = reply.status < 2 ^ 16

-- a reply can be written if its status has a phrase
abbrev pub HasPhrase : ℕ → Type 0
HasPhrase status = IsSome (reason_phrase status)

-- the head and the body
abbrev pub reply_bytes : Reply → List ℕ
reply_bytes reply = status_line reply.status ++ (fields_text reply ++ body_text reply.body)

-- a front of the bytes was sent, and `count` is its length, or the greatest u64 for a longer front
pub record IsCutOff (observable : Type 0) (bytes : List ℕ) (count : ℕ) (before after : List ℕ) : Type 0 where
  pub front : List ℕ
  pub back : List ℕ
  pub split : bytes ≡ front ++ back
  pub counted : count ≡ min (length front) counter_limit
  pub sent : observable → after ≡ before ++ front
