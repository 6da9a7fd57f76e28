use borrow.Author.Tests.{lt-ltb, le-ltb, le-leb, lt-leb}
use Rattle.site.proofs.sizes.is_inside.Goals as goal

pub returns-then-tracks-track : goal.returns-then-tracks-track
returns-then-tracks-track c = rw (le-ltb _ _ (rw (c.tracks.ensures.0, c.from-track.ensures) at c.if-tracks-track.true))

pub returns-then-sector-lt1 : goal.returns-then-sector-lt1
returns-then-sector-lt1 c = rw (lt-ltb _ _ (rw (c.tracks.ensures.0, c.from-track.ensures) at c.if-tracks-track.false), lt-leb 1 _ c.if-sector-lt1.true)

pub returns : goal.returns
returns c = rw (lt-ltb _ _ (rw (c.tracks.ensures.0, c.from-track.ensures) at c.if-tracks-track.false), le-leb 1 _ c.if-sector-lt1.false)
