pub mod LedgerRecords
pub mod DeskRecords
pub mod ChangedRows
pub mod SoFar
pub mod RestoredDesks
pub mod TenantRows
