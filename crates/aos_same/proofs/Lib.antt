pub mod SameNodes
pub mod SameStatements
