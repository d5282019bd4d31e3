-- `vector::point` meets its contract: it reads the three places, which are the array's part. Assumes nothing.
use Rattle.vector.proofs.Points.{three_read, three_part}
use Rattle.vector.proofs.point.Goals as goal

pub returns-clause-read : goal.returns-clause-read
returns-clause-read g c = three_read _ _ c.requires c.index-flat-i.is c.index-flat-i-2.is c.index-flat-i-3.is

pub returns-clause-part : goal.returns-clause-part
returns-clause-part g c = three_part _ _ c.requires c.index-flat-i.is c.index-flat-i-2.is c.index-flat-i-3.is
