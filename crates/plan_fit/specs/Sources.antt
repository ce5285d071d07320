-- The contents that sources with their tables are.
use Rattle.std.specs.Prelude.{List, map}
use Rattle.plan_table.specs.declared.table.Table.{Table}
use Rattle.plan_table.specs.declared.source_key.SourceKey.{SourceKey}
use Rattle.plan_table.specs.declared.source_key.SourceKey.TheVariants as keys
use Rattle.plan_meaning.specs.Contents.{Contents, Source, path, buffer, frame}
use Rattle.plan_scan.specs.Source.{Source as ScanSource, file, buffer as buffers}
use Rattle.plan_value.specs.Shown.{frame_of}

-- the source that a key names
abbrev pub source_of : SourceKey → Source
source_of (keys.Path a) = path a
source_of (keys.Buffer i) = buffer i
source_of (keys.Frame i) = frame i

-- the key of a source of a scan
abbrev pub key_of : ScanSource → SourceKey
key_of (file a) = keys.Path a
key_of (buffers i) = keys.Buffer i

-- the contents that sources with their tables are
abbrev pub contents_of : List (SourceKey × Table) → Contents
contents_of ts = map (λ (p : SourceKey × Table). (source_of p.0, frame_of p.1)) ts
